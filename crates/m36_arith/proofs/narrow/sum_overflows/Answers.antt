use Rattle.std.proofs.Common.{◌≡◌, ◌+◌, ◌*◌, ◌<◌, ◌≤◌, ◌%◌, sym}
use Rattle.m36_arith.proofs.SignedOrder.{high_sum_of_low, high_sum_of_high, low_sum_of_high, low_sum_of_low}
use Rattle.m36_arith.proofs.narrow.sum_overflows.Goals as goal

pub returns-then-x-half : goal.returns-then-x-half
returns-then-x-half c = high_sum_of_low c.args.half c.args.x c.args.y c.args.carry_in c.if-x-half.true c.requires.second (rw (sym c.of_bit.ensures.value) c.if-half-sum.true)

pub returns-else-x-half : goal.returns-else-x-half
returns-else-x-half c = high_sum_of_high c.args.half c.args.x c.args.y c.args.carry_in c.if-x-half.false c.requires.first c.requires.second (rw (sym c.of_bit.ensures.value) c.if-half-sum.true)

pub returns-then-half-x : goal.returns-then-half-x
returns-then-half-x c = low_sum_of_high c.args.half c.args.x c.args.y c.args.carry_in c.if-half-x.true c.requires.first c.requires.second (rw (sym c.of_bit.ensures.value) c.if-half-sum.false)

pub returns-else-half-x : goal.returns-else-half-x
returns-else-half-x c = low_sum_of_low c.args.half c.args.x c.args.y c.args.carry_in c.if-half-x.false c.requires.second (rw (sym c.of_bit.ensures.value) c.if-half-sum.false)

use Rattle.std.proofs.Common.{arith, rules, length-set, ◌∙◌}
use Rattle.m36_text.proofs.DigitLaws.{decimal_begun, decimal_room, decimal_shorter, decimal_written}
use Rattle.m36_text.proofs.numerals.put_decimal.Goals as goal

pub loop-left-init : goal.loop-left-init
loop-left-init c = record {
  written = decimal_begun c.args.v c.args.bytes.now (search rules);
  len = search rules;
  room = decimal_room c.args.v (omega arith);
  within = omega arith;
}

pub overflow_sub-start-in-loop-left : goal.overflow_sub-start-in-loop-left
overflow_sub-start-in-loop-left c = omega (arith, decimal_shorter c.loop-left.left c.loop-left-test.true)

pub loop-left-preserved : goal.loop-left-preserved
loop-left-preserved c =
    let at = c.loop-left in
    let shorter = decimal_shorter c.loop-left.left c.loop-left-test.true in
    record {
      written = decimal_written at.start at.left c.args.v at.bytes at.invariant.len (omega arith) (omega arith) c.loop-left-test.true at.invariant.written;
      len = length-set at.bytes _ _ ∙ at.invariant.len;
      room = omega arith;
      within = omega arith;
    }

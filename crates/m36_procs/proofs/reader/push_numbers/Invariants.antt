use Rattle.std.proofs.Common.{◌≡◌, ◌++◌}
use Rattle.std.specs.List.{repeat}
use Rattle.m36_procs.proofs.reader.push_numbers.Given as goal

abbrev pub decreases-times : goal.decreases-times
decreases-times l = l.left

abbrev pub invariant-times : goal.invariant-times
invariant-times l = l.schedule.items ++ repeat l.left l.order ≡ l.fn.schedule.items ++ repeat l.times l.order

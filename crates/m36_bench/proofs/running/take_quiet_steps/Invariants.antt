use Rattle.std.proofs.Common.{◌≤◌}
use Rattle.m36_bench.proofs.running.take_quiet_steps.Given as goal

abbrev pub invariant-loop-left : goal.invariant-loop-left
invariant-loop-left l = l.left ≤ l.steps

abbrev pub decreases-loop-left : goal.decreases-loop-left
decreases-loop-left l = l.left

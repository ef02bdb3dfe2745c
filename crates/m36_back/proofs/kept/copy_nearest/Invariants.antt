use Rattle.std.proofs.Common.{◌≤◌, length}
use Rattle.m36_back.proofs.kept.copy_nearest.Given as goal

abbrev pub invariant-kept : goal.invariant-kept
invariant-kept g l = l.i ≤ length l.kept

abbrev pub decreases-kept : goal.decreases-kept
decreases-kept g l = l.i

use Rattle.std.proofs.Common.{◌<◌}
use Rattle.m36_associative.proofs.uses.index_of_least.Given as goal

abbrev pub invariant-loop-i : goal.invariant-loop-i
invariant-loop-i l = l.at < 16

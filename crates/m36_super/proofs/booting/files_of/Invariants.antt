use Rattle.std.proofs.Common.{◌≡◌}
use Rattle.m36_super.proofs.booting.files_of.Given as goal

abbrev pub invariant-loop-file : goal.invariant-loop-file
invariant-loop-file l = l.files.items ≡ l.yielded

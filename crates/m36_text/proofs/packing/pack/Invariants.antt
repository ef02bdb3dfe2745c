use Rattle.std.proofs.Common.{◌≡◌, ◌++◌, length}
use Rattle.m36_text.specs.Packing.{packed}
use Rattle.m36_text.proofs.packing.pack.Given as goal

abbrev pub invariant-loop-rest : goal.invariant-loop-rest
invariant-loop-rest l = packed l.w ≡ l.text ++ packed l.rest

abbrev pub decreases-loop-rest : goal.decreases-loop-rest
decreases-loop-rest l = length l.rest

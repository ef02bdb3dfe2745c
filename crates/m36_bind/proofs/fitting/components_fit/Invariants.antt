use Rattle.std.proofs.Common.{◌≡◌, length}
use Rattle.m36_bind.specs.Bound.{components_fit}
use Rattle.m36_bind.proofs.fitting.components_fit.Given as goal

-- the rest completes the whole
abbrev pub invariant-loop-rest : goal.invariant-loop-rest
invariant-loop-rest l = components_fit l.frame l.rest ≡ components_fit l.frame l.all

abbrev pub decreases-loop-rest : goal.decreases-loop-rest
decreases-loop-rest l = length l.rest

use Rattle.std.proofs.Common.{◌≡◌, ◌<◌, ◌^◌, length}
use Rattle.m36_bind.specs.Bound.{statics_end}
use Rattle.m36_bind.proofs.bound.statics_end.Given as goal

-- the rest completes the whole
abbrev pub invariant-loop-rest : goal.invariant-loop-rest
invariant-loop-rest l = record { all : statics_end l.end l.rest ≡ statics_end 0 l.all; small : l.end < 2 ^ 61 }

abbrev pub decreases-loop-rest : goal.decreases-loop-rest
decreases-loop-rest l = length l.rest

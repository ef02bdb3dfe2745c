use Rattle.std.proofs.Common.{◌≡◌, length}
use Rattle.m36_bind.specs.Bound.{relocations_onto}
use Rattle.m36_bind.proofs.bound.add_relocations.Given as goal

-- the rest completes the whole
abbrev pub invariant-loop-rest : goal.invariant-loop-rest
invariant-loop-rest l = relocations_onto l.m l.statics l.out l.rest ≡ relocations_onto l.m l.statics l.fn.out l.relocations

abbrev pub decreases-loop-rest : goal.decreases-loop-rest
decreases-loop-rest l = length l.rest

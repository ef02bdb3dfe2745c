use Rattle.std.proofs.Common.{◌≡◌, length}
use Rattle.m36_bind.specs.Bound.{relocations_from}
use Rattle.m36_bind.proofs.bound.add_all_relocations.Given as goal

-- the rest completes the whole
abbrev pub invariant-loop-rest : goal.invariant-loop-rest
invariant-loop-rest l = relocations_from l.frame l.statics l.out l.rest ≡ relocations_from l.frame l.statics l.fn.out l.all

abbrev pub decreases-loop-rest : goal.decreases-loop-rest
decreases-loop-rest l = length l.rest

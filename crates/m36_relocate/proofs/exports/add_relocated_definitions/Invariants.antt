use Rattle.std.proofs.Common.{◌≡◌, length}
use Rattle.m36_relocate.specs.Exports.{with_relocated_definitions}
use Rattle.m36_relocate.proofs.exports.add_relocated_definitions.Given as goal

-- the rest completes the whole
abbrev pub invariant-loop-rest : goal.invariant-loop-rest
invariant-loop-rest l = with_relocated_definitions l.m l.table l.rest ≡ with_relocated_definitions l.m l.fn.table l.definitions

abbrev pub decreases-loop-rest : goal.decreases-loop-rest
decreases-loop-rest l = length l.rest

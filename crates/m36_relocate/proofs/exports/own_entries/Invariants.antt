use Rattle.std.proofs.Common.{◌≡◌, [], length}
use Rattle.m36_relocate.specs.Exports.{with_own_definitions}
use Rattle.m36_relocate.proofs.exports.own_entries.Given as goal

-- the rest completes the whole
abbrev pub invariant-loop-rest : goal.invariant-loop-rest
invariant-loop-rest l = with_own_definitions l.table l.rest ≡ with_own_definitions [] l.definitions

abbrev pub decreases-loop-rest : goal.decreases-loop-rest
decreases-loop-rest l = length l.rest

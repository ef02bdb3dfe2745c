use Rattle.std.proofs.Common.{◌≡◌, length}
use Rattle.std.specs.List.{list_all}
use Rattle.obj36_parts.specs.ObjectSegment.{is_valid_relocation}
use Rattle.obj36_parts.proofs.checks.are_good_relocations.Given as goal

-- the result is that for the rest
abbrev pub invariant-loop-rest : goal.invariant-loop-rest
invariant-loop-rest l = list_all (is_valid_relocation l.room.text l.room.inner l.room.outer l.room.version) l.rest ≡ list_all (is_valid_relocation l.room.text l.room.inner l.room.outer l.room.version) l.relocations

abbrev pub decreases-loop-rest : goal.decreases-loop-rest
decreases-loop-rest l = length l.rest

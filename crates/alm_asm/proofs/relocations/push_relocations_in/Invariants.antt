use Rattle.std.proofs.Common.{◌≡◌, length}
use Rattle.alm_lines.specs.Spots.{start, HasRoomForLines}
use Rattle.alm_asm.specs.LineValues.{values_from}
use Rattle.alm_asm.specs.Relocations.{relocations_from}
use Rattle.alm_asm.proofs.relocations.push_relocations_in.Given as goal

-- adding the rest gives the whole
abbrev pub invariant-loop-rest : goal.invariant-loop-rest
invariant-loop-rest l = record {
  room : HasRoomForLines (length l.rest) l.spot;
  seen : l.left ≡ values_from l.text l.tables.symbols l.tables.links l.spot l.rest;
  whole : relocations_from l.text l.tables.symbols l.section l.marks l.spot l.rest ≡ relocations_from l.text l.tables.symbols l.section l.initial.marks start l.lines;
}

abbrev pub decreases-loop-rest : goal.decreases-loop-rest
decreases-loop-rest l = length l.rest

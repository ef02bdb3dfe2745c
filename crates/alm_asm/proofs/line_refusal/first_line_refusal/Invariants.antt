use Rattle.std.proofs.Common.{◌≡◌, length}
use Rattle.alm_lines.specs.Spots.{start, HasRoomForLines}
use Rattle.alm_asm.specs.LineRefusals.{lines_refusal}
use Rattle.alm_asm.specs.LineValues.{values_from}
use Rattle.alm_asm.proofs.line_refusal.first_line_refusal.Given as goal

-- no line so far is refused, and the first refusal of the rest is the first of all
abbrev pub invariant-loop-rest : goal.invariant-loop-rest
invariant-loop-rest l = record {
  room : HasRoomForLines (length l.rest) l.spot;
  seen : l.left ≡ values_from l.text l.tables.symbols l.tables.links l.spot l.rest;
  whole : lines_refusal l.text l.tables l.done l.spot l.rest ≡ lines_refusal l.text l.tables l.fn.done start l.lines;
}

abbrev pub decreases-loop-rest : goal.decreases-loop-rest
decreases-loop-rest l = length l.rest

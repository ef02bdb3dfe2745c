use Rattle.std.proofs.Common.{◌≡◌, [], length}
use Rattle.alm_lines.specs.Spots.{start, HasRoomForLines}
use Rattle.alm_asm.specs.LineValues.{values_from}
use Rattle.alm_asm.specs.Words.{words_from}
use Rattle.alm_asm.proofs.words.words_in.Given as goal

-- adding the rest gives the whole
abbrev pub invariant-loop-rest : goal.invariant-loop-rest
invariant-loop-rest l = record {
  room : HasRoomForLines (length l.rest) l.spot;
  seen : l.left ≡ values_from l.text l.tables.symbols l.tables.links l.spot l.rest;
  whole : words_from l.text l.tables l.section l.words l.spot l.rest ≡ words_from l.text l.tables l.section [] start l.lines;
}

abbrev pub decreases-loop-rest : goal.decreases-loop-rest
decreases-loop-rest l = length l.rest

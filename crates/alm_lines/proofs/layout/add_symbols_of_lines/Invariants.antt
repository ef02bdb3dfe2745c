use Rattle.std.proofs.Common.{◌≡◌, None, length}
use Rattle.alm_lines.specs.Spots.{start, HasRoomForLines}
use Rattle.alm_lines.specs.Layout.{symbols_from, layout_refusal}
use Rattle.alm_lines.proofs.layout.add_symbols_of_lines.Given as goal

-- the symbols and the refusal of the rest are those of all
abbrev pub invariant-loop-rest : goal.invariant-loop-rest
invariant-loop-rest l = record {
  room : HasRoomForLines (length l.rest) l.spot;
  symbols : symbols_from l.text l.symbols l.spot l.rest ≡ symbols_from l.text l.initial.symbols start l.lines;
  refused : layout_refusal l.text l.refused l.symbols l.spot l.rest ≡ layout_refusal l.text None l.initial.symbols start l.lines;
}

abbrev pub decreases-loop-rest : goal.decreases-loop-rest
decreases-loop-rest l = length l.rest

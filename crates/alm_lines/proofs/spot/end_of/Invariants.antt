use Rattle.std.proofs.Common.{◌≡◌, length}
use Rattle.alm_lines.specs.Spots.{start, end_of, HasRoomForLines}
use Rattle.alm_lines.proofs.spot.end_of.Given as goal

-- the end of the rest is the end of all
abbrev pub invariant-loop-rest : goal.invariant-loop-rest
invariant-loop-rest l = record {
  room : HasRoomForLines (length l.rest) l.spot;
  whole : end_of l.text l.spot l.rest ≡ end_of l.text start l.lines;
}

abbrev pub decreases-loop-rest : goal.decreases-loop-rest
decreases-loop-rest l = length l.rest

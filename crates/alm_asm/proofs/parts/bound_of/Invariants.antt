use Rattle.std.proofs.Common.{◌≡◌, ◌<◌, ◌^◌, length}
use Rattle.alm_lines.specs.Spots.{start, HasRoomForLines}
use Rattle.alm_asm.specs.Assembly.{bound_from}
use Rattle.alm_asm.proofs.parts.bound_of.Given as goal

-- the bound by the rest, or else the bound so far, is that of all
abbrev pub invariant-loop-rest : goal.invariant-loop-rest
invariant-loop-rest l = record {
  room : HasRoomForLines (length l.rest) l.spot;
  value : bound_from l.text l.bound l.spot l.rest ≡ bound_from l.text 0 start l.lines;
  fits : l.bound < 2 ^ 18;
}

abbrev pub decreases-loop-rest : goal.decreases-loop-rest
decreases-loop-rest l = length l.rest

use Rattle.std.proofs.Common.{◌≡◌, ◌++◌, length}
use Rattle.alm_lines.specs.Spots.{start, HasRoomForLines}
use Rattle.alm_asm.specs.Links.{links_from}
use Rattle.alm_asm.specs.LineValues.{values_from}
use Rattle.alm_asm.proofs.seen.compute_values.Given as goal

-- the rest completes the links, and the values of the rest complete all values
abbrev pub invariant-loop-rest : goal.invariant-loop-rest
invariant-loop-rest l =
    let whole = links_from l.text l.symbols l.fn.links start l.lines in
    record {
      room : HasRoomForLines (length l.rest) l.spot;
      links : links_from l.text l.symbols l.links l.spot l.rest ≡ whole;
      seen : l.all ++ values_from l.text l.symbols whole l.spot l.rest ≡ values_from l.text l.symbols whole start l.lines;
    }

abbrev pub decreases-loop-rest : goal.decreases-loop-rest
decreases-loop-rest l = length l.rest

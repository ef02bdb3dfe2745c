use Rattle.std.proofs.Common.{◌≡◌, ◌≤◌, length}
use Rattle.obj36_parts.specs.ObjectSegment.{section_limit}
use Rattle.alm_lines.specs.Spots.{start, HasRoomForLines}
use Rattle.alm_asm.specs.Links.{links_from}
use Rattle.alm_asm.specs.LineValues.{values_from}
use Rattle.alm_asm.specs.Growth.{growth_refusal}
use Rattle.alm_asm.proofs.growth.find_growth_refusal.Given as goal

-- the refusal of the rest is that of all
abbrev pub invariant-loop-rest : goal.invariant-loop-rest
invariant-loop-rest l = record {
  room : HasRoomForLines (length l.rest) l.spot;
  seen : l.left ≡ values_from l.text l.tables.symbols l.tables.links l.spot l.rest;
  links : links_from l.text l.tables.symbols l.growth.links l.spot l.rest ≡ l.tables.links;
  definition : l.growth.definition ≤ section_limit;
  symbol : l.growth.symbol ≤ section_limit;
  whole : growth_refusal l.text l.tables.symbols l.growth l.spot l.rest ≡ growth_refusal l.text l.tables.symbols l.initial.growth start l.lines;
}

abbrev pub decreases-loop-rest : goal.decreases-loop-rest
decreases-loop-rest l = length l.rest

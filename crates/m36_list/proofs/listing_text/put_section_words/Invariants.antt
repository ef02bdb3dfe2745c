use Rattle.std.proofs.Common.{◌≡◌, ◌≤◌, ◌+◌, ◌-◌, ◌^◌, ◌++◌, length, drop}
use Rattle.alm_lines.specs.Spots.{start, HasRoomForLines}
use Rattle.m36_list.specs.Listing.{section_words}
use Rattle.m36_list.proofs.listing_text.put_section_words.Given as goal

-- the lines of the rest complete the whole
abbrev pub invariant-loop-line : goal.invariant-loop-line
invariant-loop-line l = record {
  room : HasRoomForLines (length l.line-items - l.line-index) l.spot;
  fits : l.at + length l.left ≤ 2 ^ 18;
  rest : l.out ++ section_words l.name l.section l.text l.at l.left l.spot (drop l.line-index l.line-items) ≡ l.fn.out ++ section_words l.name l.section l.text l.first l.words start l.line-items;
}

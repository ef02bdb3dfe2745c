use Rattle.std.proofs.Common.{◌≡◌, ◌+◌, ◌++◌, drop}
use Rattle.m36_list.specs.Listing.{placed_lines}
use Rattle.m36_list.proofs.placed.put_all_placed.Given as goal

-- the lines of the rest complete the whole
abbrev pub invariant-loop-i : goal.invariant-loop-i
invariant-loop-i l = l.text ++ placed_lines l.section l.line (l.first + l.i) (drop l.i l.words) ≡ l.fn.text ++ placed_lines l.section l.line l.first l.words

use Rattle.std.proofs.Common.{◌≡◌, ◌+◌, ◌*◌, ◌++◌, drop}
use Rattle.m36_list.specs.Print.{link_lines}
use Rattle.m36_list.proofs.links.put_links.Given as goal

-- the lines of the rest complete the whole
abbrev pub invariant-loop-i : goal.invariant-loop-i
invariant-loop-i l = l.text ++ link_lines (l.first + 2 * l.i) (drop l.i l.links) ≡ l.fn.text ++ link_lines l.first l.links

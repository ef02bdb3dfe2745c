use Rattle.std.proofs.Common.{◌≡◌, ◌++◌, ◌+◌, ◌*◌, drop}
use Rattle.obj36_parts.specs.ObjectSegment.{link_words}
use Rattle.obj36_parts.proofs.linkage.push_links.Given as goal

-- the links that follow complete the table
abbrev pub invariant-loop-link : goal.invariant-loop-link
invariant-loop-link l = record {
  rest : l.out ++ link_words (drop l.link-index l.links) l.at l.expression ≡ l.fn.out ++ link_words l.links l.first l.expressions;
  place : l.at ≡ l.first + 2 * l.link-index;
  behind : l.expression ≡ l.expressions + 2 * l.link-index;
}

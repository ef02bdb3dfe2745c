use Rattle.std.proofs.Common.{◌≡◌, ◌++◌, drop}
use Rattle.obj36_parts.specs.ObjectSegment.{expression_words}
use Rattle.obj36_parts.proofs.sections.push_expressions.Given as goal

-- the expressions that follow complete the table
abbrev pub invariant-loop-link : goal.invariant-loop-link
invariant-loop-link l = l.out ++ expression_words l.table.names l.table.base (drop l.link-index l.links) ≡ l.fn.out ++ expression_words l.table.names l.table.base l.links

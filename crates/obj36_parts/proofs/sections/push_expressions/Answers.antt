use Rattle.std.proofs.Common.{◌++◌}
use Rattle.obj36_parts.specs.ObjectSegment.{expression_words}
use Rattle.obj36_parts.proofs.SectionLoops.{expression_more, expressions_done}
use Rattle.obj36_parts.proofs.sections.push_expressions.Goals as goal

pub loop-link-preserved : goal.loop-link-preserved
loop-link-preserved c =
    expression_more c.args.table.now.names c.args.table.now.base c.args.links.now c.loop-link.link-index c.link-item.result c.loop-link.out c.push_expression.new.out
    (c.args.out.now ++ expression_words c.args.table.now.names c.args.table.now.base c.args.links.now) c.loop-link-test.true c.link-item.is c.in_ok-push_expression.ensures c.loop-link.invariant

pub returns : goal.returns
returns c = expressions_done c.args.table.now.names c.args.table.now.base c.args.links.now c.loop-link.link-index c.loop-link.out _ c.loop-link-test.false c.loop-link.invariant

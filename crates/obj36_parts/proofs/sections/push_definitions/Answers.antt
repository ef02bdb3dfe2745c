use Rattle.std.proofs.Common.{◌++◌, arith}
use Rattle.obj36_parts.specs.ObjectSegment.{definition_words}
use Rattle.obj36_parts.proofs.SectionLoops.{definition_more, definitions_done}
use Rattle.obj36_parts.proofs.sections.push_definitions.Goals as goal

pub loop-i-preserved : goal.loop-i-preserved
loop-i-preserved c = record {
  rest =
      definition_more c.args.table.now.names c.args.table.now.base c.args.definitions.now c.loop-i.i c.loop-i.at c.offset_unless_empty-next.result c.index-definitions-i.result c.loop-i.out c.push_definition.new.out
      (c.args.out.now ++ definition_words c.args.table.now.names c.args.table.now.base c.args.definitions.now 2) c.loop-i-test.true c.index-definitions-i.is c.offset_unless_empty-next.ensures c.in_ok-push_definition.ensures c.loop-i.invariant.rest;
  place = omega arith;
}

pub returns : goal.returns
returns c = definitions_done c.args.table.now.names c.args.table.now.base c.args.definitions.now c.loop-i.i c.loop-i.at c.loop-i.out _ c.loop-i-test.false c.loop-i.invariant.rest

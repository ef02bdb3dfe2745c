use Rattle.std.proofs.Common.{◌∙◌, arith}
use Rattle.obj36_parts.specs.Names.{with_names}
use Rattle.obj36_parts.specs.ObjectSegment.{definition_names}
use Rattle.obj36_parts.proofs.NameTables.{definition_added, definitions_added}
use Rattle.obj36_parts.proofs.names.add_definitions.Goals as goal

pub loop-definition-preserved : goal.loop-definition-preserved
loop-definition-preserved c = record {
  all =
      definition_added c.loop-definition.table.names c.add.new.self.names (with_names c.args.table.now.names (definition_names c.args.definitions.now)) c.args.definitions.now
      c.loop-definition.definition-index c.definition-item.result c.loop-definition-test.true c.definition-item.is c.in_ok-add.ensures.names c.loop-definition.invariant.all;
  few = omega (arith, c.in_ok-add.ensures.few);
  base = c.in_ok-add.ensures.base ∙ c.loop-definition.invariant.base;
}

pub returns-clause-names : goal.returns-clause-names
returns-clause-names c = definitions_added c.loop-definition.table.names _ c.args.definitions.now c.loop-definition.definition-index c.loop-definition-test.false c.loop-definition.invariant.all

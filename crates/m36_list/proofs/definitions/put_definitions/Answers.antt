use Rattle.m36_list.proofs.PrintLines.{definition_put, definitions_put}
use Rattle.m36_list.proofs.definitions.put_definitions.Goals as goal

pub loop-definition-preserved : goal.loop-definition-preserved
loop-definition-preserved c = definition_put c.loop-definition.text c.put_definition.new.text _ c.args.definitions.now c.loop-definition.definition-index c.definition-item.result c.loop-definition-test.true c.definition-item.is c.in_ok-put_definition.ensures c.loop-definition.invariant

pub returns : goal.returns
returns c = definitions_put c.loop-definition.text _ c.args.definitions.now c.loop-definition.definition-index c.loop-definition-test.false c.loop-definition.invariant

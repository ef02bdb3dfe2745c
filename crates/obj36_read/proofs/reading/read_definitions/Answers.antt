use Rattle.std.proofs.Common.{◌++◌, ◌∷◌, [], ap, ◌∙◌, arith}
use Rattle.obj36_parts.specs.declared.definition.Named.{Named}
use Rattle.obj36_read.specs.Reading.{definitions_in}
use Rattle.obj36_read.proofs.ReadingLoops.{definition_read, definitions_read}
use Rattle.obj36_read.proofs.reading.read_definitions.Goals as goal

pub loop-preserved : goal.loop-preserved
loop-preserved c = record {
  rest =
      definition_read c.args.words.now c.loop.at c.args.count c.loop.counter c.loop.found c.push.new.self (c.args.found.now ++ definitions_in c.args.words.now 2 c.args.count) c.loop-test.true
      (c.in_ok-push.ensures.ok ∙ ap (λ (x : Named). c.loop.found ++ x ∷ []) c.definition.ensures) c.loop.invariant.rest;
  place = omega arith;
}

pub returns : goal.returns
returns c = definitions_read c.args.words.now c.loop.at c.args.count c.loop.counter c.loop.found (c.args.found.now ++ definitions_in c.args.words.now 2 c.args.count) c.loop-test.false c.loop.invariant.rest

use Rattle.std.proofs.Common.{◌++◌, ◌∷◌, [], ap, ◌∙◌, arith}
use Rattle.obj36_parts.specs.Fields.{RelocFields}
use Rattle.obj36_read.specs.Reading.{relocations_in}
use Rattle.obj36_read.proofs.ReadingLoops.{relocation_read, relocations_read}
use Rattle.obj36_read.proofs.reading.read_relocations.Goals as goal

pub loop-preserved : goal.loop-preserved
loop-preserved c = record {
  rest =
      relocation_read c.args.words.now c.loop.at c.word_at.result c.args.count c.loop.counter c.loop.found c.push.new.self (c.args.found.now ++ relocations_in c.args.words.now 1 c.args.count) c.loop-test.true
      c.word_at.ensures (c.in_ok-push.ensures.ok ∙ ap (λ (x : RelocFields). c.loop.found ++ x ∷ []) c.relocation.ensures) c.loop.invariant.rest;
  place = omega arith;
}

pub returns : goal.returns
returns c = relocations_read c.args.words.now c.loop.at c.args.count c.loop.counter c.loop.found (c.args.found.now ++ relocations_in c.args.words.now 1 c.args.count) c.loop-test.false c.loop.invariant.rest

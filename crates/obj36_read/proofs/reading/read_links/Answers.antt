use Rattle.std.proofs.Common.{◌++◌, ◌∷◌, [], ap, ◌∙◌, arith}
use Rattle.obj36_parts.specs.Fields.{LinkFields}
use Rattle.obj36_read.specs.Reading.{links_in}
use Rattle.obj36_read.proofs.ReadingLoops.{link_read, links_read}
use Rattle.obj36_read.proofs.reading.read_links.Goals as goal

pub loop-preserved : goal.loop-preserved
loop-preserved c = record {
  rest =
      link_read c.args.words.now c.loop.at c.args.linkage.now c.loop.place c.args.count c.loop.counter c.loop.found c.push.new.self (c.args.found.now ++ links_in c.args.words.now c.args.expressions c.args.linkage.now c.args.first c.args.count) c.loop-test.true
      (c.in_ok-push.ensures.ok ∙ ap (λ (x : LinkFields). c.loop.found ++ x ∷ []) c.link.ensures) c.loop.invariant.rest;
  expression = omega arith;
  link = omega arith;
}

pub returns : goal.returns
returns c = links_read c.args.words.now c.loop.at c.args.linkage.now c.loop.place c.args.count c.loop.counter c.loop.found (c.args.found.now ++ links_in c.args.words.now c.args.expressions c.args.linkage.now c.args.first c.args.count) c.loop-test.false c.loop.invariant.rest

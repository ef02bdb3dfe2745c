use Rattle.std.proofs.Common.{arith}
use Rattle.obj36_read.specs.LinkFaults.{first_bad_link}
use Rattle.obj36_read.proofs.FaultLoops.{link_more, link_not, links_end}
use Rattle.obj36_read.proofs.linking.first_link_fault.Goals as goal

pub returns-then-not-is_good_link-clause-value : goal.returns-then-not-is_good_link-clause-value
returns-then-not-is_good_link-clause-value c =
    link_not c.args.k.now c.loop.at c.loop.expression c.args.count c.loop.counter (first_bad_link c.args.k.now c.args.start c.args.expressions c.args.count) c.is_good_link.result c.loop-test.true
    c.is_good_link.ensures c.if-not-is_good_link.true c.loop.invariant.rest

pub loop-preserved : goal.loop-preserved
loop-preserved c = record {
  rest =
      link_more c.args.k.now c.loop.at c.loop.expression c.args.count c.loop.counter (first_bad_link c.args.k.now c.args.start c.args.expressions c.args.count) c.is_good_link.result c.loop-test.true
      c.is_good_link.ensures c.if-not-is_good_link.false c.loop.invariant.rest;
  link = omega arith;
  behind = omega arith;
}

pub returns-clause-value : goal.returns-clause-value
returns-clause-value c =
    links_end c.args.k.now c.loop.at c.loop.expression c.args.count c.loop.counter (first_bad_link c.args.k.now c.args.start c.args.expressions c.args.count) c.loop-test.false c.loop.invariant.rest

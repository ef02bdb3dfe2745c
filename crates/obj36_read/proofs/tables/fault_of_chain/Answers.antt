use Rattle.std.proofs.Common.{true, ◌∙◌}
use Rattle.obj36_read.specs.TableFaults.{chain_fault, first_definition}
use Rattle.obj36_read.proofs.FaultLoops.{chain_goes_on, chain_breaks, chain_ends}
use Rattle.obj36_read.proofs.tables.fault_of_chain.Goals as goal

pub returns-then-not-is_definition_within-clause-value : goal.returns-then-not-is_definition_within-clause-value
returns-then-not-is_definition_within-clause-value c =
    chain_breaks c.args.d.now c.args.count c.loop.counter c.loop.holder c.loop.at (chain_fault c.args.d.now c.args.count 0 (first_definition c.args.d.now)) c.is_definition_within.result c.loop-test.true
    c.is_definition_within.ensures c.if-not-is_definition_within.true c.loop.invariant.rest

pub loop-preserved : goal.loop-preserved
loop-preserved c = record {
  rest =
      chain_goes_on c.args.d.now c.args.count c.loop.counter c.loop.holder c.loop.at c.next_definition_offset-at.result (chain_fault c.args.d.now c.args.count 0 (first_definition c.args.d.now)) c.is_definition_within.result c.loop-test.true
      c.next_definition_offset-at.ensures.value c.is_definition_within.ensures c.if-not-is_definition_within.false c.loop.invariant.rest;
  held = c.loop.invariant.near;
  near = c.next_definition_offset-at.ensures.bound;
}

pub returns-clause-value : goal.returns-clause-value
returns-clause-value c =
    c.fault_at_end_of_chain.ensures.value
    ∙ chain_ends c.args.d.now c.args.count c.loop.counter c.loop.holder c.loop.at (chain_fault c.args.d.now c.args.count 0 (first_definition c.args.d.now)) c.loop-test.false c.loop.invariant.rest

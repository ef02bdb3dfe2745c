use Rattle.std.proofs.Common.{◌-◌, ◌+◌}
use Rattle.obj36_read.specs.TableFaults.{first_bad_class, definition_count, first_definition}
use Rattle.obj36_read.proofs.FaultLoops.{found_more, found_all, class_step, class_end}
use Rattle.obj36_read.proofs.tables.fault_of_classes.Goals as goal

pub loop-preserved : goal.loop-preserved
loop-preserved c = record {
  rest =
      let count = c.count_of_definitions-end.result in
      found_more c.loop.found c.index_if-here.result c.earlier_of-found.result (first_bad_class c.args.last c.args.d.now (count - (c.loop.counter + 1)) c.next_definition_offset-at.result)
      (first_bad_class c.args.last c.args.d.now (count - c.loop.counter) c.loop.at) (first_bad_class c.args.last c.args.d.now (definition_count c.args.d.now) (first_definition c.args.d.now))
      c.earlier_of-found.ensures.value
      (class_step c.args.last c.args.d.now count c.loop.counter c.loop.at c.next_definition_offset-at.result c.class_of_definition.result c.index_if-here.result c.loop-test.true
      c.next_definition_offset-at.ensures.value c.class_of_definition.ensures c.index_if-here.ensures.value)
      c.loop.invariant.rest;
  near = c.next_definition_offset-at.ensures.bound;
  bound = c.earlier_of-found.ensures.bound;
}

pub returns-clause-value : goal.returns-clause-value
returns-clause-value c =
    let count = c.count_of_definitions-end.result in
    found_all c.loop.found (first_bad_class c.args.last c.args.d.now (count - c.loop.counter) c.loop.at) _ (class_end c.args.last c.args.d.now count c.loop.counter c.loop.at c.loop-test.false) c.loop.invariant.rest

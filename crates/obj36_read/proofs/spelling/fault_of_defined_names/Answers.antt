use Rattle.std.proofs.Common.{◌-◌, ◌+◌}
use Rattle.obj36_read.specs.TableFaults.{defined_names_fault, definition_count, first_definition}
use Rattle.obj36_read.proofs.FaultLoops.{found_more, found_all, defined_name_step, defined_names_end}
use Rattle.obj36_read.proofs.spelling.fault_of_defined_names.Goals as goal

pub loop-preserved : goal.loop-preserved
loop-preserved c = record {
  rest =
      let count = c.count_of_definitions-end.result in
      found_more c.loop.found c.fault_of_name-here.result c.earlier_of-found.result (defined_names_fault c.args.d.now (count - (c.loop.counter + 1)) c.next_definition_offset-at.result)
      (defined_names_fault c.args.d.now (count - c.loop.counter) c.loop.at) (defined_names_fault c.args.d.now (definition_count c.args.d.now) (first_definition c.args.d.now))
      c.earlier_of-found.ensures.value
      (defined_name_step c.args.d.now count c.loop.counter c.loop.at c.next_definition_offset-at.result c.offset_of_name.result c.fault_of_name-here.result c.loop-test.true
      c.next_definition_offset-at.ensures.value c.offset_of_name.ensures.value c.fault_of_name-here.ensures.value)
      c.loop.invariant.rest;
  near = c.next_definition_offset-at.ensures.bound;
  bound = c.earlier_of-found.ensures.bound;
}

pub returns-clause-value : goal.returns-clause-value
returns-clause-value c =
    let count = c.count_of_definitions-end.result in
    found_all c.loop.found (defined_names_fault c.args.d.now (count - c.loop.counter) c.loop.at) _ (defined_names_end c.args.d.now count c.loop.counter c.loop.at c.loop-test.false) c.loop.invariant.rest

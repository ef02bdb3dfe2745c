use Rattle.std.proofs.Common.{◌-◌, ◌+◌, arith}
use Rattle.obj36_read.specs.TableFaults.{linked_names_fault, expression_count, first_expression}
use Rattle.obj36_read.proofs.FaultLoops.{found_more, found_all, linked_name_step, linked_names_end}
use Rattle.obj36_read.proofs.spelling.fault_of_linked_names.Goals as goal

pub loop-preserved : goal.loop-preserved
loop-preserved c = record {
  rest =
      let count = c.count_of_expressions-end.result in
      found_more c.loop.found c.fault_of_expression-here.result c.earlier_of-found.result (linked_names_fault c.args.d.now (count - (c.loop.counter + 1)) (c.loop.at + 2))
      (linked_names_fault c.args.d.now (count - c.loop.counter) c.loop.at) (linked_names_fault c.args.d.now (expression_count c.args.d.now) (first_expression c.args.d.now))
      c.earlier_of-found.ensures.value
      (linked_name_step c.args.d.now count c.loop.counter c.loop.at c.fault_of_expression-here.result c.loop-test.true c.fault_of_expression-here.ensures.value)
      c.loop.invariant.rest;
  near = omega arith;
  bound = c.earlier_of-found.ensures.bound;
}

pub returns-clause-value : goal.returns-clause-value
returns-clause-value c =
    let count = c.count_of_expressions-end.result in
    found_all c.loop.found (linked_names_fault c.args.d.now (count - c.loop.counter) c.loop.at) _ (linked_names_end c.args.d.now count c.loop.counter c.loop.at c.loop-test.false) c.loop.invariant.rest

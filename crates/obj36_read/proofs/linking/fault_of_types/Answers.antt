use Rattle.std.proofs.Common.{◌-◌, ◌+◌, arith}
use Rattle.obj36_read.specs.TableFaults.{expression_count, first_expression}
use Rattle.obj36_read.specs.LinkFaults.{first_bad_type}
use Rattle.obj36_read.proofs.FaultLoops.{found_more, found_all, type_step, types_end}
use Rattle.obj36_read.proofs.linking.fault_of_types.Goals as goal

pub loop-preserved : goal.loop-preserved
loop-preserved c = record {
  rest =
      let count = c.count_of_expressions-end.result in
      found_more c.loop.found c.index_if-here.result c.earlier_of-found.result (first_bad_type c.args.version c.args.d.now (count - (c.loop.counter + 1)) (c.loop.at + 2))
      (first_bad_type c.args.version c.args.d.now (count - c.loop.counter) c.loop.at) (first_bad_type c.args.version c.args.d.now (expression_count c.args.d.now) (first_expression c.args.d.now))
      c.earlier_of-found.ensures.value
      (type_step c.args.version c.args.d.now count c.loop.counter c.loop.at c.word_at.result c.is_good_type.result c.index_if-here.result c.loop-test.true c.word_at.ensures c.is_good_type.ensures c.index_if-here.ensures.value)
      c.loop.invariant.rest;
  near = omega arith;
  bound = c.earlier_of-found.ensures.bound;
}

pub returns-clause-value : goal.returns-clause-value
returns-clause-value c =
    let count = c.count_of_expressions-end.result in
    found_all c.loop.found (first_bad_type c.args.version c.args.d.now (count - c.loop.counter) c.loop.at) _ (types_end c.args.version c.args.d.now count c.loop.counter c.loop.at c.loop-test.false) c.loop.invariant.rest

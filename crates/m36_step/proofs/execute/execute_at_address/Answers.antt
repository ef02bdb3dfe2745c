use Rattle.std.proofs.Common.{◌∙◌}
use Rattle.m36_step.proofs.Ends.{operation_refused, operation_performed}
use Rattle.m36_step.proofs.execute.execute_at_address.Goals as goal

pub returns-in-Err-clause-ends : goal.returns-in-Err-clause-ends
returns-in-Err-clause-ends c =
    operation_refused c.args.regs.now c.args.row.now.effect c.args.row.now.reg c.args.word c.args.formed.now c.args.walk.now.core c.args.refs.now.items c.operate.new.walk.core c.operate.new.refs.items c.operate.new.regs c.operate.new.put c.in-Err.halt c.end_of_halt.result (c.in-Err.ensures {u = tt}).operates (c.in-Err.ensures {u = tt}).stays c.end_of_halt.ensures

pub returns-in-Ok-clause-ends : goal.returns-in-Ok-clause-ends
returns-in-Ok-clause-ends c =
    operation_performed c.args.regs.now c.args.row.now.effect c.args.row.now.reg c.args.word c.args.formed.now c.args.walk.now.core c.args.refs.now.items c.operate.new.walk.core c.operate.new.refs.items c.operate.new.regs c.operate.new.put c.in-Ok.operated c.finish_step.new.walk.core c.finish_step.result (c.in-Ok.ensures {u = tt}).operates (c.finish_step.ensures.core ∙ c.write_words.ensures.core) (c.finish_step.ensures.end c.args.regs.now c.here-here.ensures)

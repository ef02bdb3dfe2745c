use Rattle.std.proofs.Common.{refl}
use Rattle.m36_step.proofs.Ends.{address_refused, address_formed}
use Rattle.m36_step.proofs.execute.form_address_and_execute.Goals as goal

pub returns-in-Err-clause-ends : goal.returns-in-Err-clause-ends
returns-in-Err-clause-ends c =
    address_refused c.args.regs.now c.args.row.now.effect c.args.row.now.reg c.args.word c.args.inst.now c.requires.inst c.args.walk.now.core c.args.refs.now.items c.form_address.new.walk.core c.form_address.new.refs.items c.in-Err.halt c.args.regs.now c.end_of_halt.result (c.in-Err.ensures {u = tt}).forms refl c.end_of_halt.ensures

pub returns-in-Ok-clause-ends : goal.returns-in-Ok-clause-ends
returns-in-Ok-clause-ends c =
    address_formed c.args.regs.now c.args.row.now.effect c.args.row.now.reg c.args.word c.args.inst.now c.requires.inst c.args.walk.now.core c.args.refs.now.items c.form_address.new.walk.core c.form_address.new.refs.items c.in-Ok.formed c.execute_at_address.new.walk.core c.execute_at_address.new.refs.items c.execute_at_address.new.regs c.execute_at_address.result (c.in-Ok.ensures {u = tt}).forms c.execute_at_address.ensures.ends

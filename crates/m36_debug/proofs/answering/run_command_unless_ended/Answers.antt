use Rattle.m36_debug.specs.Putting.{pending}
use Rattle.m36_debug.specs.Session.{machine_relations}
use Rattle.m36_debug.proofs.AnswerLaws.{command_told, command_ran}
use Rattle.m36_debug.proofs.answering.run_command_unless_ended.Goals as goal

pub returns-in-Some-clause-says : goal.returns-in-Some-clause-says
returns-in-Some-clause-says g c =
    let world = g.W.World in
    let m = g.M.Stepper in
    command_told (machine_relations m.regs m.content m.next m.went) c.put_end.result c.result_of_put.result c.in-Some.end c.args.run c.args.sitting.now c.taken.result c.args.m.now (pending c.args.block.now (world.seen c.args.world.now)) (pending c.put_end.new.block (world.seen c.put_end.new.world)) c.in-Some.ensures c.taken.ensures c.put_end.ensures c.result_of_put.ensures

pub returns-in-None-clause-says : goal.returns-in-None-clause-says
returns-in-None-clause-says g c =
    let world = g.W.World in
    let m = g.M.Stepper in
    command_ran (machine_relations m.regs m.content m.next m.went) c.run_command.result c.args.run c.args.sitting.now c.args.m.now c.run_command.new.sitting c.run_command.new.m (pending c.args.block.now (world.seen c.args.world.now)) (pending c.run_command.new.block (world.seen c.run_command.new.world)) c.in-None.ensures c.run_command.ensures.says

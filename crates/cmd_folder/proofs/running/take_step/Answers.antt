-- The line of the step was added and its service performed, or the output failed.
use Rattle.cmd_folder.proofs.Serving.{step_lost, step_goes}
use Rattle.cmd_folder.proofs.running.take_step.Goals as goal

pub returns-in-Done : goal.returns-in-Done
returns-in-Done g c =
    step_goes c.serve.result c.args.output c.args.taken c.args.system.now c.step_told.new.self c.serve.new.system c.step_told.new.told
    c.args.block.now c.add_step.new.block c.serve.new.block _ _ _ c.step_told.ensures c.in-Done.ensures.adds c.serve.ensures

pub returns-in-Failed : goal.returns-in-Failed
returns-in-Failed g c =
    step_lost c.args.output c.args.taken c.args.system.now c.step_told.new.self c.step_told.new.told c.args.block.now c.add_step.new.block _ _
    c.step_told.ensures c.in-Failed.ensures.adds

-- The step was taken and its service performed.
use Rattle.cmd_make.proofs.Serving.{step_goes}
use Rattle.cmd_make.proofs.running.take_step.Goals as goal

pub returns : goal.returns
returns c =
    step_goes c.serve.result c.args.system.now c.step_told.new.self c.serve.new.system c.step_told.new.told
    c.step_told.ensures c.serve.ensures

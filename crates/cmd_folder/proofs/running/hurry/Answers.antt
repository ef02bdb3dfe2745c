-- Nothing is written of the steps, or none was taken.
use Rattle.cmd_folder.specs.RunSays.{run_of}
use Rattle.cmd_folder.proofs.Serving.{hurried_goes, none_goes}
use Rattle.m36_super.specs.SuperFields.{booted_of}
use Rattle.cmd_folder.proofs.running.hurry.Goals as goal

pub returns-in-Console-clause-goes : goal.returns-in-Console-clause-goes
returns-in-Console-clause-goes c =
    hurried_goes c.args.output c.args.system.now.lib c.hurry.result (booted_of c.args.system.now) (booted_of c.hurry.new.self) c.in-Console.is c.requires c.hurry.ensures.turns

pub returns-in-Trace-clause-goes : goal.returns-in-Trace-clause-goes
returns-in-Trace-clause-goes c denied taken left =
    none_goes (run_of c.args.system.now.lib c.args.output denied) taken left (booted_of c.args.system.now)

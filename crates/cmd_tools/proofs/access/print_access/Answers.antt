-- The files were read, or not.
use Rattle.m36_program.specs.Program.{quiet}
use Rattle.cmd_tools.proofs.ToolSteps.{access_done, access_stop}
use Rattle.cmd_tools.proofs.access.print_access.Goals as goal

pub returns-in-Ok : goal.returns-in-Ok
returns-in-Ok g c =
    access_done c.args.user.now c.in-Ok.report c.text.result.now c.put_text-answer.result _ _ _ c.text.ensures c.in-Ok.ensures (c.put_text-answer.ensures quiet)

pub returns-in-Err : goal.returns-in-Err
returns-in-Err g c = access_stop c.args.user.now c.in-Err.status _ _ c.in-Err.ensures

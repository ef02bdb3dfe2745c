-- The object was printed, or not.
use Rattle.m36_program.specs.Program.{quiet}
use Rattle.cmd_tools.proofs.ToolSteps.{print_done, print_stop}
use Rattle.cmd_tools.proofs.printing.print_object.Goals as goal

pub returns-in-Ok : goal.returns-in-Ok
returns-in-Ok g c =
    print_done c.args.name.now c.in-Ok.report c.text.result.now c.put_text-answer.result _ _ _ c.text.ensures c.in-Ok.ensures (c.put_text-answer.ensures quiet)

pub returns-in-Err : goal.returns-in-Err
returns-in-Err g c = print_stop c.args.name.now c.in-Err.status _ _ c.in-Err.ensures

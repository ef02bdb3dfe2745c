-- The object was read, or not.
use Rattle.m36_program.specs.Program.{quiet}
use Rattle.cmd_tools.proofs.ToolSteps.{print_read, print_unread}
use Rattle.cmd_tools.proofs.printing.read_print.Goals as goal

pub returns-in-Ok : goal.returns-in-Ok
returns-in-Ok g c =
    print_read quiet c.args.name.now c.in-Ok.object c.report_of_print-given.result c.refusal_as_status.result _ _ (c.in-Ok.ensures quiet) c.report_of_print-given.ensures c.refusal_as_status.ensures

pub returns-in-Err : goal.returns-in-Err
returns-in-Err g c = print_unread quiet c.args.name.now c.in-Err.status _ _ (c.in-Err.ensures quiet)

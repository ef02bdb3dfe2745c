-- The boot text was read, or not.
use Rattle.m36_program.specs.Program.{quiet}
use Rattle.cmd_tools.proofs.ToolSteps.{access_read, access_unread}
use Rattle.cmd_tools.proofs.access.access_report.Goals as goal

pub returns-in-Ok : goal.returns-in-Ok
returns-in-Ok g c =
    access_read quiet c.args.user.now c.in-Ok.catalog c.lists_report-report.result _ _ _ (c.in-Ok.ensures quiet) c.lists_report-report.ensures

pub returns-in-Err : goal.returns-in-Err
returns-in-Err g c = access_unread quiet c.args.user.now c.in-Err.status _ _ (c.in-Err.ensures quiet)

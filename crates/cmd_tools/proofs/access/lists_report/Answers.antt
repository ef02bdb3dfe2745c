-- The access lists were read, or not.
use Rattle.m36_program.specs.Program.{quiet}
use Rattle.cmd_tools.proofs.ToolSteps.{lists_read, lists_unread}
use Rattle.cmd_tools.proofs.access.lists_report.Goals as goal

pub returns-in-Ok : goal.returns-in-Ok
returns-in-Ok g c =
    lists_read quiet c.args.user.now c.args.catalog.now c.in-Ok.lists c.access_of-given.result c.refusal_as_status.result _ _ (c.in-Ok.ensures quiet) c.access_of-given.ensures c.refusal_as_status.ensures

pub returns-in-Err : goal.returns-in-Err
returns-in-Err g c = lists_unread quiet c.args.user.now c.args.catalog.now c.in-Err.status _ _ (c.in-Err.ensures quiet)

-- The components were read, or not.
use Rattle.cmd_tools.proofs.ToolSteps.{components_read, components_unread}
use Rattle.cmd_tools.proofs.binding.read_and_bind.Goals as goal

pub returns-in-Ok : goal.returns-in-Ok
returns-in-Ok g c =
    components_read c.args.files.now c.args.text.now c.args.names.now c.in-Ok.objects c.items.result.now c.bind_and_report-given.result c.refusal_as_status.result _ _ c.in-Ok.ensures c.items.ensures c.bind_and_report-given.ensures c.refusal_as_status.ensures

pub returns-in-Err : goal.returns-in-Err
returns-in-Err g c = components_unread c.args.files.now c.args.text.now c.args.names.now c.in-Err.status _ _ c.in-Err.ensures

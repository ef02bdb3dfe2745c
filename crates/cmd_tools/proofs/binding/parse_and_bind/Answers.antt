-- The names of the components were taken from the bind file, or not.
use Rattle.cmd_tools.proofs.ToolSteps.{text_read, text_unread}
use Rattle.cmd_tools.proofs.binding.parse_and_bind.Goals as goal

pub returns-in-Ok : goal.returns-in-Ok
returns-in-Ok g c =
    text_read c.args.files.now c.args.text.now c.bytes.result.now c.names_in.result c.refusal_as_status.result c.in-Ok.names c.items.result.now c.read_and_bind-report.result _ _ c.bytes.ensures.value c.names_in.ensures c.refusal_as_status.ensures c.in-Ok.is c.items.ensures c.read_and_bind-report.ensures

pub returns-in-Err : goal.returns-in-Err
returns-in-Err g c =
    text_unread c.args.files.now c.args.text.now c.bytes.result.now c.names_in.result c.refusal_as_status.result c.in-Err.status _ c.bytes.ensures.value c.names_in.ensures c.refusal_as_status.ensures c.in-Err.is

-- The source was read, or not.
use Rattle.m36_files.specs.Writing.{may_write_files}
use Rattle.cmd_tools.proofs.ToolSteps.{source_read, source_unread}
use Rattle.cmd_tools.proofs.assembling.read_source.Goals as goal

pub returns-in-Ok : goal.returns-in-Ok
returns-in-Ok g c =
    source_read c.args.files.now c.bytes.result.now c.in-Ok.text c.bytes-in-Ok.result.now c.assemble_source-given.result c.refusal_as_status.result _ _ c.bytes.ensures.value (c.in-Ok.ensures.performs may_write_files) c.bytes-in-Ok.ensures c.assemble_source-given.ensures c.refusal_as_status.ensures

pub returns-in-Err : goal.returns-in-Err
returns-in-Err g c =
    source_unread c.args.files.now c.bytes.result.now c.in-Err.status _ _ c.bytes.ensures.value (c.in-Err.ensures.performs may_write_files)

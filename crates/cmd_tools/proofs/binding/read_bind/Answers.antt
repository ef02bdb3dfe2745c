-- The bind file was read, or not.
use Rattle.m36_files.specs.Writing.{may_write_files}
use Rattle.cmd_tools.proofs.ToolSteps.{bind_read, bind_unread}
use Rattle.cmd_tools.proofs.binding.read_bind.Goals as goal

pub returns-in-Ok : goal.returns-in-Ok
returns-in-Ok g c =
    bind_read c.args.files.now c.bytes.result.now c.in-Ok.text c.bytes-in-Ok.result.now c.parse_and_bind-report.result _ _ _ c.bytes.ensures.value (c.in-Ok.ensures.performs may_write_files) c.bytes-in-Ok.ensures c.parse_and_bind-report.ensures

pub returns-in-Err : goal.returns-in-Err
returns-in-Err g c =
    bind_unread c.args.files.now c.bytes.result.now c.in-Err.status _ _ c.bytes.ensures.value (c.in-Err.ensures.performs may_write_files)

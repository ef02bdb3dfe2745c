-- The text is a source, or not.
use Rattle.cmd_tools.proofs.AlmLaws.{made_read, read_refused}
use Rattle.cmd_tools.proofs.assembling.parse_and_assemble.Goals as goal

pub returns-in-Ok : goal.returns-in-Ok
returns-in-Ok c = made_read c.args.name.now c.args.bytes.now c.in-Ok.lines c.assemble_lines.result c.in-Ok.ensures.says c.assemble_lines.ensures

pub returns-in-Err : goal.returns-in-Err
returns-in-Err c = read_refused c.args.bytes.now c.in-Err.fault c.in-Err.ensures.says

-- One more file was written, or not.
use Rattle.std.proofs.Common.{refl}
use Rattle.cmd_tools.specs.Reporting.{write_files}
use Rattle.m36_files.specs.Writing.{may_write_files}
use Rattle.cmd_tools.proofs.ReportLaws.{files_start, file_written, file_unwritten, files_end}
use Rattle.cmd_tools.proofs.reporting.write_files.Goals as goal

pub loop-file-init : goal.loop-file-init
loop-file-init g c = files_start c.args.files.now (g.W.World.seen c.args.world.now)

pub loop-file-preserved : goal.loop-file-preserved
loop-file-preserved g c =
    file_written c.args.files.now c.loop-file.file-index c.file-item.result c.bytes.result.now c.bytes-in-loop-file.result.now (write_files c.args.files.now) _ _ _ c.loop-file-test.true c.file-item.is c.bytes.ensures.value c.bytes-in-loop-file.ensures c.loop-file.invariant (c.in-Ok.ensures may_write_files refl)

pub returns-in-Err : goal.returns-in-Err
returns-in-Err g c =
    file_unwritten c.args.files.now c.loop-file.file-index c.file-item.result c.bytes.result.now c.bytes-in-loop-file.result.now (write_files c.args.files.now) c.in-Err.status _ _ _ c.loop-file-test.true c.file-item.is c.bytes.ensures.value c.bytes-in-loop-file.ensures c.loop-file.invariant (c.in-Err.ensures may_write_files refl)

pub returns : goal.returns
returns g c = files_end c.args.files.now c.loop-file.file-index (write_files c.args.files.now) _ _ c.loop-file-test.false c.loop-file.invariant

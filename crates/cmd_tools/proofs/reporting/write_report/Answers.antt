-- The files were written, or not.
use Rattle.m36_files.specs.Writing.{may_write_files}
use Rattle.cmd_tools.proofs.ReportLaws.{report_put, report_unwritten}
use Rattle.cmd_tools.proofs.reporting.write_report.Goals as goal

pub returns-in-Ok : goal.returns-in-Ok
returns-in-Ok g c =
    report_put c.args.report.now c.files.result.now c.text.result.now c.put_text.result _ _ _ c.files.ensures c.text.ensures c.in-Ok.ensures (c.put_text.ensures may_write_files)

pub returns-in-Err : goal.returns-in-Err
returns-in-Err g c = report_unwritten c.args.report.now c.files.result.now c.in-Err.status _ _ c.files.ensures c.in-Err.ensures

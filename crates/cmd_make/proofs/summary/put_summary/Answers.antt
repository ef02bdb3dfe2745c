-- The end line was put, and then the registers'.
use Rattle.cmd_make.proofs.SummarySteps.{end_put, end_unput}
use Rattle.cmd_make.proofs.summary.put_summary.Goals as goal

pub returns-in-Ok : goal.returns-in-Ok
returns-in-Ok g c =
    end_put c.finish_line.result.bytes (record {
      how = c.args.end.how;
      steps = c.args.end.steps;
      regs = c.args.regs.now;
    }) c.put_sum.result _ _ _
    c.finish_line.ensures.text c.in-Ok.ensures c.put_sum.ensures

pub returns-in-Err : goal.returns-in-Err
returns-in-Err g c =
    end_unput c.finish_line.result.bytes (record {
      how = c.args.end.how;
      steps = c.args.end.steps;
      regs =
          c.args.regs.now;
    }) c.in-Err.status _ _
    c.finish_line.ensures.text c.in-Err.ensures

-- The run ended, or memory ran out.
use Rattle.m36_super.specs.SuperFields.{booted_of}
use Rattle.cmd_make.proofs.SummarySteps.{run_ended, run_stops}
use Rattle.cmd_make.proofs.summary.run_and_summarise.Goals as goal

pub returns-in-Ok : goal.returns-in-Ok
returns-in-Ok g c =
    run_ended c.args.system.now.lib c.args.steps (booted_of c.args.system.now) c.in-Ok.end.how c.in-Ok.end.steps
    c.run_quietly.new.system.regs c.regs.result.now
    c.put_summary.result _ _ c.in-Ok.ensures c.regs.ensures c.put_summary.ensures

pub returns-in-Err : goal.returns-in-Err
returns-in-Err g c =
    run_stops c.args.system.now.lib c.args.steps (booted_of c.args.system.now) c.in-Err.status _ c.in-Err.ensures

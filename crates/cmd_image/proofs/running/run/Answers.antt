-- After a step another may follow, the run has ended, or the output failed; or no step is left.
use Rattle.std.proofs.Common.{arith}
use Rattle.cmd_image.specs.ImageProgram.{run_from}
use Rattle.cmd_image.proofs.RunLoop.{run_next, run_last, run_lost, run_limit}
use Rattle.cmd_image.proofs.running.run.Goals as goal

pub steps-preserved : goal.steps-preserved
steps-preserved g c = record {
  left = run_next (run_from 0 c.args.steps c.args.machine.now.state) c.steps.block c.take_step.new.block c.steps.taken c.steps.left c.steps.machine.state c.take_step.new.machine.state _ _ _ c.steps.invariant.left c.steps-test.true c.in-Next.ensures.says c.in-Next.ensures.state;
  count = omega (arith, c.steps.invariant.count);
}

pub returns-in-Ended : goal.returns-in-Ended
returns-in-Ended g c =
    run_last (run_from 0 c.args.steps c.args.machine.now.state) c.steps.block c.take_step.new.block c.steps.taken c.steps.left c.steps.machine.state c.in-Ended.outcome c.end_run-ended.result _ _ _ _ c.steps.invariant.left c.steps-test.true c.in-Ended.ensures.says c.end_run-ended.ensures

pub returns-in-WriteFailed : goal.returns-in-WriteFailed
returns-in-WriteFailed g c =
    run_lost (run_from 0 c.args.steps c.args.machine.now.state) c.steps.block c.steps.taken c.steps.left c.steps.machine.state _ _ _ c.steps.invariant.left c.steps-test.true c.in-WriteFailed.ensures.says

pub returns : goal.returns
returns g c =
    run_limit (run_from 0 c.args.steps c.args.machine.now.state) c.steps.block c.steps.taken c.steps.left c.steps.machine.state c.end_run-ended-2.result _ _ _ c.steps.invariant.left (omega arith) c.end_run-ended-2.ensures

-- After a step another may follow, the run has ended, or it failed; or no step is left.
use Rattle.std.proofs.Common.{◌+◌, ◌-◌, ◌<◌, ◌≤◌, arith, ◌∙◌}
use Rattle.m36_status.specs.declared.status.Status.TheVariants.{WriteFault, NoMemory}
use Rattle.m36_super.specs.SuperFields.{booted_of}
use Rattle.cmd_folder.specs.RunProgram.{run_from}
use Rattle.cmd_folder.specs.RunSays.{run_of}
use Rattle.cmd_folder.proofs.RunLoop.{run_hurried, run_next, run_over, run_fails, run_limit}
use Rattle.cmd_folder.proofs.running.run.Goals as goal

pub steps-preserved : goal.steps-preserved
steps-preserved g c =
    let i = c.steps.invariant in
    let lib = c.args.system.now.lib in
    let n = c.hurry-hurried.result in
    let few : n ≤ c.steps.left = omega (arith, c.hurry-hurried.ensures.few, c.steps-test.true) in
    let more : 0 < c.steps.left - n = omega (arith, c.hurry-hurried.ensures.few, c.steps-test.true) in
    let same = c.hurry-hurried.ensures.same ∙ i.same in
    let goes = c.in-Next.ensures in
    let first = run_from (run_of lib c.args.output c.args.denied.now) 0 c.args.steps (booted_of c.args.system.now) in
    record {
      left = run_next lib c.args.output c.args.denied.now (c.steps.taken + n) (c.steps.left - n) c.hurry-hurried.new.system c.take_step.new.system c.steps.block c.take_step.new.block first _ _ _
          (run_hurried lib c.steps.system.lib c.args.output c.args.denied.now n c.steps.taken c.steps.left c.steps.system c.hurry-hurried.new.system c.steps.block first _ _ i.left few i.same c.hurry-hurried.ensures.goes) more same goes;
      count = omega (arith, i.count, few, more);
      next = goes.next;
      same = goes.same ∙ same;
      shown = goes.shown;
    }

pub returns-in-Ended : goal.returns-in-Ended
returns-in-Ended g c =
    let i = c.steps.invariant in
    let lib = c.args.system.now.lib in
    let n = c.hurry-hurried.result in
    let few : n ≤ c.steps.left = omega (arith, c.hurry-hurried.ensures.few, c.steps-test.true) in
    let more : 0 < c.steps.left - n = omega (arith, c.hurry-hurried.ensures.few, c.steps-test.true) in
    let same = c.hurry-hurried.ensures.same ∙ i.same in
    let first = run_from (run_of lib c.args.output c.args.denied.now) 0 c.args.steps (booted_of c.args.system.now) in
    run_over c.in-Ended.end lib c.args.output c.args.denied.now (c.steps.taken + n) (c.steps.left - n) c.hurry-hurried.new.system c.steps.block c.take_step.new.block first c.end_run-ended.result _ _ _ _
    (run_hurried lib c.steps.system.lib c.args.output c.args.denied.now n c.steps.taken c.steps.left c.steps.system c.hurry-hurried.new.system c.steps.block first _ _ i.left few i.same c.hurry-hurried.ensures.goes) more same c.in-Ended.ensures c.end_run-ended.ensures

pub returns-in-WriteFailed : goal.returns-in-WriteFailed
returns-in-WriteFailed g c =
    let i = c.steps.invariant in
    let lib = c.args.system.now.lib in
    let n = c.hurry-hurried.result in
    let few : n ≤ c.steps.left = omega (arith, c.hurry-hurried.ensures.few, c.steps-test.true) in
    let more : 0 < c.steps.left - n = omega (arith, c.hurry-hurried.ensures.few, c.steps-test.true) in
    let same = c.hurry-hurried.ensures.same ∙ i.same in
    let first = run_from (run_of lib c.args.output c.args.denied.now) 0 c.args.steps (booted_of c.args.system.now) in
    run_fails WriteFault lib c.args.output c.args.denied.now (c.steps.taken + n) (c.steps.left - n) c.hurry-hurried.new.system c.steps.block first _ _ _
    (run_hurried lib c.steps.system.lib c.args.output c.args.denied.now n c.steps.taken c.steps.left c.steps.system c.hurry-hurried.new.system c.steps.block first _ _ i.left few i.same c.hurry-hurried.ensures.goes) more same c.in-WriteFailed.ensures

pub returns-in-NoMemory : goal.returns-in-NoMemory
returns-in-NoMemory g c =
    let i = c.steps.invariant in
    let lib = c.args.system.now.lib in
    let n = c.hurry-hurried.result in
    let few : n ≤ c.steps.left = omega (arith, c.hurry-hurried.ensures.few, c.steps-test.true) in
    let more : 0 < c.steps.left - n = omega (arith, c.hurry-hurried.ensures.few, c.steps-test.true) in
    let same = c.hurry-hurried.ensures.same ∙ i.same in
    let first = run_from (run_of lib c.args.output c.args.denied.now) 0 c.args.steps (booted_of c.args.system.now) in
    run_fails NoMemory lib c.args.output c.args.denied.now (c.steps.taken + n) (c.steps.left - n) c.hurry-hurried.new.system c.steps.block first _ _ _
    (run_hurried lib c.steps.system.lib c.args.output c.args.denied.now n c.steps.taken c.steps.left c.steps.system c.hurry-hurried.new.system c.steps.block first _ _ i.left few i.same c.hurry-hurried.ensures.goes) more same c.in-NoMemory.ensures

pub returns : goal.returns
returns g c =
    let i = c.steps.invariant in
    run_limit c.args.system.now.lib c.args.output c.args.denied.now c.steps.taken c.steps.left c.steps.system c.steps.block (run_from (run_of c.args.system.now.lib c.args.output c.args.denied.now) 0 c.args.steps (booted_of c.args.system.now)) c.end_run-ended-2.result _ _ _ i.left (omega (arith, c.steps-test.false)) c.end_run-ended-2.ensures

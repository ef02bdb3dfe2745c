-- After a step another may follow, the run has ended, or memory ran out; or no step is left.
use Rattle.std.proofs.Common.{◌+◌, ◌-◌, ◌<◌, ◌≤◌, ap, arith, ◌∙◌}
use Rattle.m36_super.specs.SuperFields.{SuperFields, booted_of}
use Rattle.cmd_make.specs.QuietRun.{run_from}
use Rattle.cmd_make.proofs.RunLoop.{run_hurried, run_next, run_over, run_starves, run_limit}
use Rattle.cmd_make.proofs.running.run_quietly.Goals as goal

pub steps-preserved : goal.steps-preserved
steps-preserved c =
    let i = c.steps.invariant in
    let lib = c.args.system.now.lib in
    let n = c.hurry-hurried.result in
    let few : n ≤ c.steps.left = omega (arith, c.hurry-hurried.ensures.few, c.steps-test.true) in
    let more : 0 < c.steps.left - n = omega (arith, c.hurry-hurried.ensures.few, c.steps-test.true) in
    let later = c.hurry-hurried.new.self in
    let same = ap (λ (s : SuperFields). s.lib) c.hurry-hurried.ensures.state ∙ i.same in
    let first = run_from lib 0 c.args.steps (booted_of c.args.system.now) in
    let left = run_hurried lib n c.steps.taken c.steps.left c.steps.system later first i.left few i.same i.next c.hurry-hurried.ensures.turns in
    let goes = c.in-Next.ensures in
    record {
      left = run_next lib (c.steps.taken + n) (c.steps.left - n) later c.take_step.new.system first left more same goes;
      count = omega (arith, i.count, few, more);
      next = goes.next;
      same = goes.same ∙ same;
    }

pub returns-in-Ended : goal.returns-in-Ended
returns-in-Ended c =
    let i = c.steps.invariant in
    let lib = c.args.system.now.lib in
    let n = c.hurry-hurried.result in
    let few : n ≤ c.steps.left = omega (arith, c.hurry-hurried.ensures.few, c.steps-test.true) in
    let more : 0 < c.steps.left - n = omega (arith, c.hurry-hurried.ensures.few, c.steps-test.true) in
    let later = c.hurry-hurried.new.self in
    let same = ap (λ (s : SuperFields). s.lib) c.hurry-hurried.ensures.state ∙ i.same in
    let first = run_from lib 0 c.args.steps (booted_of c.args.system.now) in
    let left = run_hurried lib n c.steps.taken c.steps.left c.steps.system later first i.left few i.same i.next c.hurry-hurried.ensures.turns in
    run_over c.in-Ended.end lib (c.steps.taken + n) (c.steps.left - n) later c.take_step.new.system first left more same c.in-Ended.ensures

pub returns-in-NoMemory : goal.returns-in-NoMemory
returns-in-NoMemory c =
    let i = c.steps.invariant in
    let lib = c.args.system.now.lib in
    let n = c.hurry-hurried.result in
    let few : n ≤ c.steps.left = omega (arith, c.hurry-hurried.ensures.few, c.steps-test.true) in
    let more : 0 < c.steps.left - n = omega (arith, c.hurry-hurried.ensures.few, c.steps-test.true) in
    let later = c.hurry-hurried.new.self in
    let same = ap (λ (s : SuperFields). s.lib) c.hurry-hurried.ensures.state ∙ i.same in
    let first = run_from lib 0 c.args.steps (booted_of c.args.system.now) in
    let left = run_hurried lib n c.steps.taken c.steps.left c.steps.system later first i.left few i.same i.next c.hurry-hurried.ensures.turns in
    run_starves lib (c.steps.taken + n) (c.steps.left - n) later first left more same c.in-NoMemory.ensures

pub returns : goal.returns
returns c =
    let i = c.steps.invariant in
    let lib = c.args.system.now.lib in
    run_limit lib c.steps.taken c.steps.left c.steps.system (run_from lib 0 c.args.steps (booted_of c.args.system.now))
    i.left (omega (arith, c.steps-test.false))

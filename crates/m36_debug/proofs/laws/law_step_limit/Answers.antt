use Rattle.m36_debug.specs.Session.{machine_relations}
use Rattle.m36_debug.proofs.LimitLaws.{steps_within}
use Rattle.m36_debug.proofs.laws.law_step_limit.Goals as goal

pub returns : goal.returns
returns g c =
    let m = g.M.Stepper in
    steps_within (machine_relations m.regs m.content m.next m.went) g.met.M.Stepper.interrupted

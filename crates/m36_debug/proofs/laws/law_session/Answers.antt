use Rattle.m36_debug.specs.Session.{machine_relations}
use Rattle.m36_debug.proofs.SessionText.{session_law}
use Rattle.m36_debug.proofs.laws.law_session.Goals as goal

pub returns : goal.returns
returns g c =
    let m = g.M.Stepper in
    session_law (machine_relations m.regs m.content m.next m.went)

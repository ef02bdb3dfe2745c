use Rattle.std.proofs.Common.{[], ◌∷◌, ◌++◌}
use Rattle.m36_ea.specs.Points.{indirect_reference}
use Rattle.m36_ea.proofs.Runs.{follows_plain, follows_its}
use Rattle.m36_ea.proofs.quick.follow_from_front.Goals as goal

pub returns-in-Plain-clause-follows : goal.returns-in-Plain-clause-follows
returns-in-Plain-clause-follows c = λ refs next.
    let some = c.in-Some.ensures {u = tt} in
    rw c.after_plain-next.ensures (follows_plain c.args.regs.now c.args.tpr.now c.args.word c.args.held c.args.walk.now c.args.walk.now refs next c.in-Some.found.0 c.in-Some.found.1 some.serves some.ring (c.in-Plain.ensures {u = tt}).found)

pub returns-in-Some-odd_from_front-clause-follows : goal.returns-in-Some-odd_from_front-clause-follows
returns-in-Some-odd_from_front-clause-follows c = λ refs next.
    let some = c.in-Some.ensures {u = tt} in
    let odd = rw some.same at (c.in-Some-odd_from_front.ensures {u = tt}).serves in
    rw c.after_its-next.ensures (follows_its c.args.regs.now c.args.tpr.now c.args.word c.args.held c.args.walk.now c.args.walk.now refs next c.in-Some.found.0 c.in-Some.found.1 some.serves some.ring c.args.walk.now.core (refs ++ indirect_reference c.args.tpr.now c.args.word 2 ∷ []) c.in-Some-odd_from_front.odd (c.in-Its.ensures {u = tt}).found (odd refs))

use Rattle.std.proofs.Common.{sym, refl, [], ◌∷◌, ◌++◌}
use Rattle.m36_ea.specs.Points.{indirect_reference}
use Rattle.m36_ea.proofs.Runs.{odd_served}
use Rattle.m36_ea.proofs.quick.odd_from_front.Goals as goal

pub returns-clause-serves : goal.returns-clause-serves
returns-clause-serves c = λ refs.
    let some = c.in-Some.ensures {u = tt} in
    let got = rw some.same at c.peek-odd.ensures in
    let before = refs ++ indirect_reference c.args.tpr.now c.args.word 1 ∷ [] in
    odd_served c.args.regs.now c.args.tpr.now c.args.word c.args.walk.now refs (refs ++ indirect_reference c.args.tpr.now c.args.word 2 ∷ []) c.args.walk.now.core c.peek-odd.result c.at.result c.at.ensures
    (rw got (some.serves c.args.regs.now.ppr.psr c.args.regs.now (sym c.requires.dbr) refl [] before)) refl

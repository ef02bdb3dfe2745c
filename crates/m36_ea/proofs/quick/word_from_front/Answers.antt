use Rattle.std.proofs.Common.{sym, refl, []}
use Rattle.m36_ea.proofs.quick.word_from_front.Goals as goal

pub returns-clause-serves : goal.returns-clause-serves
returns-clause-serves c = λ refs.
    let some = rw c.at.ensures at (c.in-Some.ensures {u = tt}) in
    let got = rw some.same at c.peek-even.ensures in
    rw got (some.serves c.args.regs.now.ppr.psr c.args.regs.now (sym c.requires.dbr) refl [] refs)

use Rattle.std.proofs.Common.{ℕ, List, sym, subst}
use Rattle.m36_page.specs.Residence.{AgreesWithCore}
use Rattle.m36_page.specs.Changes.{IsSet}
use Rattle.m36_page.proofs.pager.Pager.set.Goals as goal

pub returns-in-Some-clause-set : goal.returns-in-Some-clause-set
returns-in-Some-clause-set c =
    subst (λ (now : List ℕ). IsSet c.args.self.now c.args.core.now c.args.self.now now c.args.seg c.args.word c.args.w) (sym c.poke.ensures)
    (c.in-Some.ensures.set c.args.w)

pub returns-in-Some-clause-reads : goal.returns-in-Some-clause-reads
returns-in-Some-clause-reads c =
    subst (λ (now : List ℕ). AgreesWithCore c.args.self.now now) (sym c.poke.ensures) (c.in-Some.ensures.reads c.args.w)

use Rattle.std.proofs.Common.{List, length, ap, subst, ◌∙◌}
use Rattle.m36_page.specs.Fields.{TableFields, PagerFields}
use Rattle.m36_page.specs.Changes.{AreAbsent}
use Rattle.m36_page.proofs.Lay.{laid_reads}
use Rattle.m36_page.proofs.pager.Pager.lay.Goals as goal

pub returns-clause-reads : goal.returns-clause-reads
returns-clause-reads c =
    let P : List TableFields → Type 0 = λ ts. AreAbsent ts (length ts) c.args.core.now c.put_absent_tables.new.core in
    laid_reads c.args.self.now c.args.core.now c.put_absent_tables.new.core c.requires.empty
    (subst P (c.deref.ensures.value ∙ ap (λ (x : PagerFields). x.tables) c.self.view_is) c.put_absent_tables.ensures)

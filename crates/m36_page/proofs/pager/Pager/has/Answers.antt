use Rattle.std.proofs.Common.{ap, sym, ◌∙◌}
use Rattle.m36_page.specs.Fields.{TableFields}
use Rattle.m36_page.proofs.Parts.{has_is, has_not}
use Rattle.m36_page.proofs.pager.Pager.has.Goals as goal

pub returns-in-Some : goal.returns-in-Some
returns-in-Some c =
    has_is c.self.inside.first c.self.inside.holders.items c.self.inside.tables.items c.deref.result.now c.args.self.now c.args.seg c.args.page c.in-Some.i c.table.inside.pages c.index-table.result.now
    c.self.view_is c.deref.ensures.value (sym c.find_table.ensures.place ∙ c.in-Some.is) c.index-table.ensures (ap (λ (t : TableFields). t.pages) c.table.view_is)

pub returns-in-None : goal.returns-in-None
returns-in-None c =
    has_not c.self.inside.first c.self.inside.holders.items c.self.inside.tables.items c.deref.result.now c.args.self.now c.args.seg c.args.page
    c.self.view_is c.deref.ensures.value (sym c.find_table.ensures.place ∙ c.in-None.is)

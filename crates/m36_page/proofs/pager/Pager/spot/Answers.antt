use Rattle.std.proofs.Common.{◌≡◌, ◌+◌, ap, arith}
use Rattle.m36_page.specs.Fields.{TableFields}
use Rattle.m36_page.specs.Residence.{spot_of}
use Rattle.m36_page.proofs.Parts.{place_needed, spot_is, pager_parts}
use Rattle.m36_page.proofs.pager.Pager.spot.Goals as goal

pub table_index-requires : goal.table_index-requires
table_index-requires c =
    place_needed c.self.inside.first c.self.inside.holders.items c.self.inside.tables.items c.deref.result.now c.args.self.now c.args.seg c.args.page c.self.view_is c.deref.ensures.value c.requires.page

pub returns-clause-value : goal.returns-clause-value
returns-clause-value c =
    spot_is c.self.inside.first c.self.inside.holders.items c.self.inside.tables.items c.deref.result.now c.args.self.now c.args.seg c.args.page c.table_index.result c.table.inside.at c.index-table.result.now
    c.self.view_is c.deref.ensures.value c.table_index.ensures.place c.index-table.ensures (ap (λ (t : TableFields). t.at) c.table.view_is)

pub returns-clause-below : goal.returns-clause-below
returns-clause-below c =
    let is = returns-clause-value c in
    let pager = pager_parts c.self.inside.first c.self.inside.holders.items c.self.inside.tables.items c.args.self.now c.self.inside.spots.items c.self.view_is c.self.invariant.0 in
    let below = pager.below c.args.seg c.args.page c.requires.page in
    omega (arith, is, below)

pub overflow_add-result : goal.overflow_add-result
overflow_add-result c =
    let is : c.table.inside.at + c.args.page ≡ spot_of c.args.self.now c.args.seg c.args.page =
    spot_is c.self.inside.first c.self.inside.holders.items c.self.inside.tables.items c.deref.result.now c.args.self.now c.args.seg c.args.page c.table_index.result c.table.inside.at c.index-table.result.now
    c.self.view_is c.deref.ensures.value c.table_index.ensures.place c.index-table.ensures (ap (λ (t : TableFields). t.at) c.table.view_is) in
    let pager = pager_parts c.self.inside.first c.self.inside.holders.items c.self.inside.tables.items c.args.self.now c.self.inside.spots.items c.self.view_is c.self.invariant.0 in
    let below = pager.below c.args.seg c.args.page c.requires.page in
    let few = c.requires.frames in
    omega (arith, is, below, few)

pub returns-clause-pager : goal.returns-clause-pager
returns-clause-pager c =
    pager_parts c.self.inside.first c.self.inside.holders.items c.self.inside.tables.items c.args.self.now c.self.inside.spots.items c.self.view_is c.self.invariant.0

use Rattle.std.proofs.Common.{◌≡◌, ◌+◌, ◌*◌, Some, set, length, length-set, ap, arith}
use Rattle.m36_page.specs.Fields.{TableFields, PagerFields}
use Rattle.m36_page.specs.Residence.{spot_of}
use Rattle.m36_page.proofs.Parts.{parts, place_needed, spot_is, room_is, taken_parts, inside_taken, inside_view}
use Rattle.m36_page.proofs.pager.Pager.take_in.Goals as goal

pub table_index-i-requires : goal.table_index-i-requires
table_index-i-requires c =
    place_needed c.self.inside.first c.self.inside.holders.items c.self.inside.tables.items c.deref.result.now c.args.self.now c.args.seg c.args.page c.self.view_is c.deref.ensures.value c.requires.page

pub overflow_add-spot : goal.overflow_add-spot
overflow_add-spot c =
    let is : c.table.inside.at + c.args.page ≡ spot_of c.args.self.now c.args.seg c.args.page =
    spot_is c.self.inside.first c.self.inside.holders.items c.self.inside.tables.items c.deref.result.now c.args.self.now c.args.seg c.args.page c.table_index-i.result c.table.inside.at c.index-table.result.now
    c.self.view_is c.deref.ensures.value c.table_index-i.ensures.place c.index-table.ensures (ap (λ (t : TableFields). t.at) c.table.view_is) in
    let below = c.requires.settled.pager.below c.args.seg c.args.page c.requires.page in
    let room = c.requires.settled.frames in
    let most = c.requires.settled.most in
    omega (arith, is, below, room, most)

pub copy_page_in-requires-clause-room : goal.copy_page_in-requires-clause-room
copy_page_in-requires-clause-room c =
    room_is c.self.inside.first c.self.inside.holders.items c.self.inside.tables.items c.deref.result.now c.args.self.now c.args.seg c.args.page c.table_index-i.result c.index-table.result.now
    c.self.view_is c.deref.ensures.value c.table_index-i.ensures.place c.index-table.ensures c.requires.settled.pager c.requires.page

pub put_resident-requires-clause-spot : goal.put_resident-requires-clause-spot
put_resident-requires-clause-spot c =
    let is : c.table.inside.at + c.args.page ≡ spot_of c.args.self.now c.args.seg c.args.page =
    spot_is c.self.inside.first c.self.inside.holders.items c.self.inside.tables.items c.deref.result.now c.args.self.now c.args.seg c.args.page c.table_index-i.result c.table.inside.at c.index-table.result.now
    c.self.view_is c.deref.ensures.value c.table_index-i.ensures.place c.index-table.ensures (ap (λ (t : TableFields). t.at) c.table.view_is) in
    let below = c.requires.settled.pager.below c.args.seg c.args.page c.requires.page in
    let room = c.requires.settled.frames in
    let size = c.copy_page_in.ensures.size in
    omega (arith, is, below, room, size)

pub returns : goal.returns
returns c =
    let is : c.table.inside.at + c.args.page ≡ spot_of c.args.self.now c.args.seg c.args.page =
    spot_is c.self.inside.first c.self.inside.holders.items c.self.inside.tables.items c.deref.result.now c.args.self.now c.args.seg c.args.page c.table_index-i.result c.table.inside.at c.index-table.result.now
    c.self.view_is c.deref.ensures.value c.table_index-i.ensures.place c.index-table.ensures (ap (λ (t : TableFields). t.at) c.table.view_is) in
    taken_parts c.self.inside.first c.self.inside.holders.items c.self.inside.tables.items c.deref.result.now c.args.self.now c.args.core.now c.copy_page_in.new.core c.put_resident.new.core
    c.args.k c.args.seg c.args.page c.table_index-i.result (c.table.inside.at + c.args.page) c.index-table.result.now
    c.self.view_is c.requires.settled c.requires.page c.requires.out c.requires.empty c.requires.inside
    c.deref.ensures.value c.table_index-i.ensures.place c.index-table.ensures c.copy_page_in.ensures is c.put_resident.ensures

pub invariant_of-self : goal.invariant_of-self
invariant_of-self c =
    let is : c.table.inside.at + c.args.page ≡ spot_of c.args.self.now c.args.seg c.args.page =
    spot_is c.self.inside.first c.self.inside.holders.items c.self.inside.tables.items c.deref.result.now c.args.self.now c.args.seg c.args.page c.table_index-i.result c.table.inside.at c.index-table.result.now
    c.self.view_is c.deref.ensures.value c.table_index-i.ensures.place c.index-table.ensures (ap (λ (t : TableFields). t.at) c.table.view_is) in
    let count : length c.self.inside.holders.items ≡ length c.args.self.now.holders = ap (λ (x : PagerFields). length x.holders) c.self.view_is in
    let inside = c.requires.inside in (
      inside_taken c.args.self.now c.args.core.now (parts c.self.inside.first (set c.self.inside.holders.items c.args.k (Some (c.args.seg, c.args.page))) c.self.inside.tables.items)
          c.put_resident.new.core c.args.k c.args.seg c.args.page c.self.inside.spots.items (c.table.inside.at + c.args.page)
          (inside_view _ c.args.self.now c.self.inside.spots.items c.self.view_is c.self.invariant.0) (returns c) is,
      omega (arith, inside, count, length-set c.self.inside.holders.items c.args.k (Some (c.args.seg, c.args.page))),
    )

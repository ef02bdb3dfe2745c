use Rattle.std.proofs.Common.{◌/◌, set, arith}
use Rattle.m36_page.proofs.Parts.{parts, place_needed, room_is, pager_parts, inside_view}
use Rattle.m36_page.proofs.SetWords.{kept_parts, inside_kept}
use Rattle.m36_page.proofs.pager.Pager.set_kept_word.Goals as goal

pub table_index-i-requires : goal.table_index-i-requires
table_index-i-requires c =
    place_needed c.self.inside.first c.self.inside.holders.items c.self.inside.tables.items c.deref.result.now c.args.self.now c.args.seg (c.args.word / 1024) c.self.view_is c.deref.ensures.value c.requires

pub put_word-requires : goal.put_word-requires
put_word-requires c =
    let room = room_is c.self.inside.first c.self.inside.holders.items c.self.inside.tables.items c.deref.result.now c.args.self.now c.args.seg (c.args.word / 1024) c.table_index-i.result c.index_mut.result.now
    c.self.view_is c.deref.ensures.value c.table_index-i.ensures.place c.index_mut.ensures.value
    (pager_parts c.self.inside.first c.self.inside.holders.items c.self.inside.tables.items c.args.self.now c.self.inside.spots.items c.self.view_is c.self.invariant.0) c.requires in
    omega (arith, room)

pub returns : goal.returns
returns c =
    kept_parts c.self.inside.first c.self.inside.holders.items c.self.inside.spots.items c.self.inside.tables.items c.deref.result.now c.args.self.now c.args.seg c.args.word c.args.value c.table_index-i.result
    c.index_mut.result.now c.put_word.new.table
    c.self.view_is c.self.invariant.0 c.deref.ensures.value c.table_index-i.ensures.place c.index_mut.ensures.value
    (let room = room_is c.self.inside.first c.self.inside.holders.items c.self.inside.tables.items c.deref.result.now c.args.self.now c.args.seg (c.args.word / 1024) c.table_index-i.result c.index_mut.result.now
    c.self.view_is c.deref.ensures.value c.table_index-i.ensures.place c.index_mut.ensures.value
    (pager_parts c.self.inside.first c.self.inside.holders.items c.self.inside.tables.items c.args.self.now c.self.inside.spots.items c.self.view_is c.self.invariant.0) c.requires in
    omega (arith, room)) c.put_word.ensures

pub invariant_of-self : goal.invariant_of-self
invariant_of-self c = (
  inside_kept c.args.self.now (parts c.self.inside.first c.self.inside.holders.items (set c.self.inside.tables.items c.table_index-i.result c.put_word.new.table))
      c.args.seg c.args.word c.args.value c.self.inside.spots.items
      (inside_view _ c.args.self.now c.self.inside.spots.items c.self.view_is c.self.invariant.0) (returns c),
  c.self.invariant.1,
)

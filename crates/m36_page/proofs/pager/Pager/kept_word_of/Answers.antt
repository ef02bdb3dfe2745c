use Rattle.std.proofs.Common.{◌/◌, arith}
use Rattle.m36_page.proofs.Parts.{place_needed, room_is, kept_is, pager_parts}
use Rattle.m36_page.proofs.pager.Pager.kept_word_of.Goals as goal

pub table_index-requires : goal.table_index-requires
table_index-requires c =
    place_needed c.self.inside.first c.self.inside.holders.items c.self.inside.tables.items c.deref.result.now c.args.self.now c.args.seg (c.args.word / 1024) c.self.view_is c.deref.ensures.value c.requires

pub word_of-requires : goal.word_of-requires
word_of-requires c =
    let room = room_is c.self.inside.first c.self.inside.holders.items c.self.inside.tables.items c.deref.result.now c.args.self.now c.args.seg (c.args.word / 1024) c.table_index.result c.index.result.now
    c.self.view_is c.deref.ensures.value c.table_index.ensures.place c.index.ensures
    (pager_parts c.self.inside.first c.self.inside.holders.items c.self.inside.tables.items c.args.self.now c.self.inside.spots.items c.self.view_is c.self.invariant.0) c.requires in
    omega (arith, room)

pub returns : goal.returns
returns c =
    kept_is c.self.inside.first c.self.inside.holders.items c.self.inside.tables.items c.deref.result.now c.args.self.now c.args.seg c.args.word c.table_index.result c.word_of.result c.index.result.now
    c.self.view_is c.deref.ensures.value c.table_index.ensures.place c.index.ensures c.word_of.ensures

use Rattle.std.proofs.Common.{◌+◌, ◌*◌, None, set, length-set, arith}
use Rattle.m36_page.proofs.Parts.{parts, place_needed, room_is, away_parts, inside_away, inside_view, spot_below}
use Rattle.m36_page.proofs.pager.Pager.evict_page.Goals as goal

pub table_index-i-requires : goal.table_index-i-requires
table_index-i-requires c =
    place_needed c.self.inside.first c.self.inside.holders.items c.self.inside.tables.items c.deref.result.now c.args.self.now c.args.seg c.args.page c.self.view_is c.deref.ensures.value
    (c.requires.settled.pager.held c.args.k c.args.seg c.args.page c.requires.held)

pub copy_page_out-requires-clause-room : goal.copy_page_out-requires-clause-room
copy_page_out-requires-clause-room c =
    room_is c.self.inside.first c.self.inside.holders.items c.self.inside.tables.items c.deref.result.now c.args.self.now c.args.seg c.args.page c.table_index-i.result c.index_mut.result.now
    c.self.view_is c.deref.ensures.value c.table_index-i.ensures.place c.index_mut.ensures.value c.requires.settled.pager
    (c.requires.settled.pager.held c.args.k c.args.seg c.args.page c.requires.held)

pub put_absent-requires : goal.put_absent-requires
put_absent-requires c =
    spot_below c.self.inside.first c.self.inside.holders.items c.self.inside.spots.items c.self.inside.tables.items c.args.self.now c.args.core.now
    c.args.k c.args.seg c.args.page c.index-spot.result.now c.self.view_is c.self.invariant.0 c.requires.settled c.requires.held c.index-spot.ensures

pub returns : goal.returns
returns c =
    away_parts c.self.inside.first c.self.inside.holders.items c.self.inside.spots.items c.self.inside.tables.items c.deref.result.now c.args.self.now c.args.core.now c.put_absent.new.core
    c.args.k c.args.seg c.args.page c.table_index-i.result c.index-spot.result.now c.index_mut.result.now c.copy_page_out.new.table
    c.self.view_is c.self.invariant.0 c.requires.settled c.requires.held
    c.deref.ensures.value c.table_index-i.ensures.place c.index_mut.ensures.value c.copy_page_out.ensures.words c.copy_page_out.ensures.others
    c.index-spot.ensures c.put_absent.ensures

pub invariant_of-self : goal.invariant_of-self
invariant_of-self c = (
  inside_away c.args.self.now c.args.core.now (parts c.self.inside.first (set c.self.inside.holders.items c.args.k None) (set c.self.inside.tables.items c.table_index-i.result c.copy_page_out.new.table))
      c.put_absent.new.core c.args.k c.args.seg c.args.page c.self.inside.spots.items
      (inside_view _ c.args.self.now c.self.inside.spots.items c.self.view_is c.self.invariant.0) (returns c),
  (let hand = c.self.invariant.1 in omega (arith, hand, length-set c.self.inside.holders.items c.args.k None)),
)

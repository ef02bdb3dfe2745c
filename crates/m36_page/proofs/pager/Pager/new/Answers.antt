use Rattle.std.proofs.Common.{List, ◌+◌, ◌*◌, ◌≤◌, sym, subst, arith}
use Rattle.std.specs.Prelude.{All}
use Rattle.m36_page.specs.Fields.{TableFields}
use Rattle.m36_page.proofs.Placed.{room_given, inside_made}
use Rattle.m36_page.proofs.Lay.{below_given}
use Rattle.m36_page.proofs.pager.Pager.new.Goals as goal

pub filled_tables-requires : goal.filled_tables-requires
filled_tables-requires c = room_given c.args.first c.args.tables.now c.requires

pub invariant_of-result : goal.invariant_of-result
invariant_of-result c = (
  inside_made c.args.first c.args.frames c.args.tables.now c.in_ok-empty_frames.field-0.items c.in_ok-no_spots.field-0.items c.in_ok-filled_tables.field-0.items
      c.requires c.in_ok-empty_frames.ensures c.in_ok-no_spots.ensures c.in_ok-filled_tables.ensures,
  omega arith,
)

pub returns-clause-room : goal.returns-clause-room
returns-clause-room c =
    let P : List TableFields → Type 0 = λ ts. All (λ (t : TableFields). t.at + t.pages ≤ 1024 * c.args.first) ts in
    subst P (sym c.in_ok-filled_tables.ensures) (below_given c.args.first c.args.tables.now c.requires)

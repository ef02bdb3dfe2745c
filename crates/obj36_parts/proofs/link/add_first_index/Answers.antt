use Rattle.std.proofs.Common.{ap, sym, ◌∙◌}
use Rattle.indexmap.specs.IndexMap.{insert_entry}
use Rattle.obj36_parts.specs.Fields.{LinkFields}
use Rattle.obj36_parts.specs.contracts.link.LinkPartialEq.TheImpl as linkeq
use Rattle.obj36_parts.proofs.IndexLaws.{place_kept, place_added}
use Rattle.obj36_parts.proofs.LinkEq.{derived_same}
use Rattle.obj36_parts.proofs.link.add_first_index.Goals as goal

pub returns-then-contains_key-clause-ok : goal.returns-then-contains_key-clause-ok
returns-then-contains_key-clause-ok c =
    place_kept _ derived_same c.args.places.now.entries c.args.link.now c.args.place (sym c.contains_key.ensures ∙ c.if-contains_key.true)

pub returns-clause-ok : goal.returns-clause-ok
returns-clause-ok c =
    place_added _ derived_same c.args.places.now.entries c.insert.new.self.entries c.args.link.now c.args.place (sym c.contains_key.ensures ∙ c.if-contains_key.false)
    (c.in_ok-insert.ensures.entries ∙ ap (λ (l : LinkFields). insert_entry (λ x y. (linkeq.ghosts).eq x y) c.args.places.now.entries l c.args.place) c.copied.ensures)

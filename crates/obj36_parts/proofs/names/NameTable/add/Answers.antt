use Rattle.std.proofs.Common.{List, ℕ, refl, sym, ap, ◌∙◌}
use Rattle.indexmap.specs.IndexMap.{insert_entry}
use Rattle.obj36_parts.specs.Names.{same, with_name, names_in}
use Rattle.obj36_parts.specs.NameTables.{NameTableFields}
use Rattle.obj36_parts.proofs.NamePlaces.{laid_more, named_last, few_named}
use Rattle.obj36_parts.proofs.names.NameTable.add.Goals as goal

pub invariant_of-self-2 : goal.invariant_of-self-2
invariant_of-self-2 c =
    let entries = c.self.inside.places.entries in
    laid_more entries c.insert.new.self.entries c.self.inside.base c.self.inside.next _ c.size_of_name.result c.args.name.now c.self.invariant
    (sym c.contains_key.ensures ∙ c.if-contains_key.false)
    (c.in_ok-insert.ensures.entries ∙ ap (λ (n : List ℕ). insert_entry same entries n c.self.inside.next) c.copied.ensures)
    c.size_of_name.ensures.value c.size_of_name.ensures.bound refl

pub returns-clause-names : goal.returns-clause-names
returns-clause-names c =
    let entries = c.self.inside.places.entries in
    named_last entries c.insert.new.self.entries c.args.name.now c.self.inside.next (sym c.contains_key.ensures ∙ c.if-contains_key.false)
    (c.in_ok-insert.ensures.entries ∙ ap (λ (n : List ℕ). insert_entry same entries n c.self.inside.next) c.copied.ensures)
    ∙ ap (λ (t : NameTableFields). with_name t.names c.args.name.now) c.self.view_is

pub returns-clause-few : goal.returns-clause-few
returns-clause-few c =
    few_named c.args.self.now.names (names_in c.insert.new.self.entries) c.args.name.now (returns-clause-names c)

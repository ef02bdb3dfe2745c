use Rattle.std.proofs.Common.{Option, ℕ, ap, ◌∙◌}
use Rattle.std.specs.Prelude.{unwrap_or}
use Rattle.obj36_parts.specs.Names.{name_offset}
use Rattle.obj36_parts.specs.NameTables.{NameTableFields}
use Rattle.obj36_parts.proofs.NamePlaces.{found_laid}
use Rattle.obj36_parts.proofs.names.NameTable.offset_of.Goals as goal

pub returns : goal.returns
returns c =
    c.unwrap_or.ensures ∙ ap (λ (o : Option ℕ). unwrap_or o c.self.inside.next) (c.copied.ensures ∙ c.get.ensures.value)
    ∙ found_laid c.self.inside.places.entries c.self.inside.base c.self.inside.next c.args.name.now c.self.invariant
    ∙ ap (λ (t : NameTableFields). name_offset c.args.name.now t.names t.base) c.self.view_is

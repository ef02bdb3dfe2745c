use Rattle.std.proofs.Common.{List, ap, ◌∙◌}
use Rattle.std.specs.Prelude.{position}
use Rattle.obj36_parts.specs.Fields.{LinkFields}
use Rattle.obj36_parts.specs.Indexes.{same_link}
use Rattle.obj36_parts.proofs.IndexLaws.{indexed_place}
use Rattle.obj36_parts.proofs.LinkEq.{derived_same}
use Rattle.obj36_parts.proofs.link.Links.index_of.Goals as goal

pub returns : goal.returns
returns c =
    c.copied.ensures ∙ c.get.ensures.value
    ∙ indexed_place _ derived_same c.self.inside.items.items c.self.inside.places.entries c.self.inside.names.keys c.args.link.now c.self.invariant
    ∙ ap (λ (ls : List LinkFields). position (same_link c.args.link.now) ls) c.self.view_is

use Rattle.std.proofs.Common.{List, ap, ◌∙◌}
use Rattle.std.specs.List.{list_any}
use Rattle.obj36_parts.specs.declared.definition.Named.{Named}
use Rattle.obj36_parts.specs.Names.{same}
use Rattle.obj36_parts.proofs.FirstLaws.{first_has}
use Rattle.obj36_parts.proofs.definition.Defs.has.Goals as goal

pub returns : goal.returns
returns c =
    c.contains_key.ensures ∙ first_has c.self.inside.firsts.entries c.self.inside.items.items c.args.name.now c.self.invariant
    ∙ ap (λ (ds : List Named). list_any (λ d. same c.args.name.now d.name) ds) c.self.view_is

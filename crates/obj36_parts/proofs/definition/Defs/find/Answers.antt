use Rattle.std.proofs.Common.{List, ap, ◌∙◌}
use Rattle.obj36_parts.specs.declared.definition.Named.{Named}
use Rattle.obj36_parts.specs.ObjectSegment.{definition_named}
use Rattle.obj36_parts.proofs.definition.Defs.find.Goals as goal

pub returns : goal.returns
returns c =
    c.copied.ensures ∙ c.get.ensures.value ∙ c.self.invariant.firsts_are c.args.name.now
    ∙ ap (λ (ds : List Named). definition_named c.args.name.now ds) c.self.view_is

use Rattle.std.proofs.Common.{ap, ◌∙◌}
use Rattle.obj36_parts.specs.PartsFields.{PartsFields}
use Rattle.obj36_parts.specs.ObjectSegment.{definition_named}
use Rattle.obj36_parts.proofs.Formed.{is_formed}
use Rattle.obj36.proofs.FoundNames.{long_name}
use Rattle.obj36.proofs.object.Object.find.Goals as goal

pub returns-in-None : goal.returns-in-None
returns-in-None c =
    long_name c.self.inside.parts.version c.args.entry.now c.self.inside.parts.definitions (is_formed c.self.inside.parts c.self.invariant.formed).definitions c.in-None.ensures
    ∙ ap (λ (p : PartsFields). definition_named c.args.entry.now p.definitions) c.self.view_is

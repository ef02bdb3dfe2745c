use Rattle.std.proofs.Common.{sym, subst, ◌∙◌}
use Rattle.obj36_parts.specs.Sizes.{HasShortLists}
use Rattle.obj36.proofs.ReaderLaws.{short_parts}
use Rattle.obj36.proofs.ObjectLaws.{found_by_value}
use Rattle.obj36.proofs.object.object_in.Goals as goal

pub sections_if_encoded-requires-clause-few : goal.sections_if_encoded-requires-clause-few
sections_if_encoded-requires-clause-few c = subst HasShortLists (sym c.in_ok-parts.ensures) (short_parts c.args.w.now c.requires)

pub returns-in-Ok-clause-value : goal.returns-in-Ok-clause-value
returns-in-Ok-clause-value c = c.object_with.ensures ∙ c.in-Ok.ensures.value

pub returns-in-Ok-clause-found : goal.returns-in-Ok-clause-found
returns-in-Ok-clause-found c = found_by_value c.args.w.now c.object_with.result (c.object_with.ensures ∙ c.in-Ok.ensures.value)

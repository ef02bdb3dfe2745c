use Rattle.std.proofs.Common.{◌≡◌, List, length, eqb, rules, ap, ◌∙◌}
use Rattle.obj36_parts.specs.declared.definition.Named.{Named}
use Rattle.obj36_parts.specs.ObjectSegment.{definition_names, are_distinct}
use Rattle.obj36_parts.proofs.FirstLaws.{distinct_by_firsts}
use Rattle.obj36_parts.proofs.definition.Defs.has_distinct_names.Goals as goal

pub returns : goal.returns
returns c =
    let firsts : c.len.result ≡ length c.self.inside.firsts.entries = search rules in
    let items : c.len-2.result ≡ length c.self.inside.items.items = search rules in
    (λ i. eqb (firsts i) (items i)) ∙ distinct_by_firsts c.self.inside.firsts.entries c.self.inside.items.items c.self.invariant
    ∙ ap (λ (ds : List Named). are_distinct (definition_names ds)) c.self.view_is

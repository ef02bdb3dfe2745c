use Rattle.std.proofs.Common.{◌≡◌, ap, ◌∙◌, length, arith}
use Rattle.obj36_parts.specs.ObjectSegment.{definition_section}
use Rattle.obj36_parts.proofs.LengthLaws.{small_sections}
use Rattle.obj36.proofs.object.Object.definition_length.Goals as goal

pub overflow_cast-result : goal.overflow_cast-result
overflow_cast-result c =
    let small = (small_sections c.self.inside.parts c.self.invariant.formed).definition in
    let same : length c.slice.result.now ≡ length (definition_section c.self.inside.parts) = ap length (c.slice.ensures.value ∙ c.self.invariant.definition) in
    omega (arith, small)

use Rattle.std.proofs.Common.{ap, ◌∙◌, length}
use Rattle.obj36_parts.specs.PartsFields.{PartsFields}
use Rattle.obj36_parts.specs.ObjectSegment.{words_of}
use Rattle.obj36_parts.proofs.LengthLaws.{size_is}
use Rattle.obj36_parts.proofs.parts.Parts.size.Goals as goal

pub returns : goal.returns
returns c =
    size_is _ c.slice.result.now c.slice-2.result.now c.items-definitions.result.now c.items-links.result.now c.items.result.now c.fixed_length.result c.size_of_distinct_names-names.result
    c.slice.ensures.value c.slice-2.ensures.value c.items-definitions.ensures c.items-links.ensures c.items.ensures c.fixed_length.ensures.value c.size_of_distinct_names-names.ensures.value
    ∙ ap (λ (q : PartsFields). length (words_of q)) c.self.view_is

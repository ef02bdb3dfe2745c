use Rattle.std.proofs.Common.{List, ℕ, ap, ◌∙◌}
use Rattle.obj36_parts.specs.Names.{same}
use Rattle.obj36.proofs.ObjectLaws.{value_by}
use Rattle.obj36.proofs.object.encodes_decoded.Goals as goal

pub returns : goal.returns
returns c =
    value_by c.args.w.now c.in_ok-words.words c.args.parts.now c.are_same_words-same.result c.requires.spelled c.in_ok-words.ensures
    (c.are_same_words-same.ensures ∙ ap (λ (words : List ℕ). same words c.args.w.now) c.slice.ensures.value)

-- The tag of a link is that of its fault.
use Rattle.std.proofs.Common.{◌≡◌, ℕ, refl, ◌∙◌, arith}
use Rattle.m36_model.specs.Chain.{indirect_tag}
use Rattle.m36_model.specs.Modification.{move_of_point}
use Rattle.obj36_parts.specs.Halves.{word_with_halves}
use Rattle.obj36_parts.specs.ObjectSegment.{link_head}
use Rattle.m36_link.specs.Laws.{UnsnappedLinksFault}

tag_of_head : (at : ℕ) → indirect_tag (link_head at) ≡ 38
unfolding word_with_halves
tag_of_head at = omega arith

pub links_fault : UnsnappedLinksFault
unfolding move_of_point
links_fault g p at is = let e : p.tag ≡ 38 = is ∙ tag_of_head at in rw e refl

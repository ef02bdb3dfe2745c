-- The places of links: the first one by the shape of an object and by its parts, and each after
-- relocation.
use Rattle.std.proofs.Common.{ℕ, ◌≡◌, ◌+◌, ◌-◌, ◌*◌, ◌<◌, ◌≤◌, Bool, true, false, cond, ltb, List, [], length, refl, ap, ◌∙◌, arith}
use Rattle.std.proofs.lemmas.Bool.{lt-ltb, le-ltb, cond-true, cond-false}
use Rattle.obj36_parts.specs.ObjectSegment.{is_newer}
use Rattle.obj36_parts.specs.declared.section.Section.TheVariants.{Linkage}
use Rattle.m36_relocate.specs.Layout.{denoted, denoted_in_version_1, denoted_in_version_2, first_link, bound_number_of, relocated_number, FirstLinkAgrees, LinksAreRelocated}
use Rattle.m36_relocate.specs.declared.layout.Denoted.{Denoted}
use Rattle.m36_relocate.specs.declared.layout.Denoted.TheVariants.{StaticWord, LinkWord, HeadWord}

stands_by : (newer : Bool) (statics : List ℕ) → cond newer 8 (8 + length statics) ≡ 8 + length (cond newer [] statics)
stands_by true statics = refl
stands_by false statics = refl

pub first_link_stands : FirstLinkAgrees
first_link_stands p = stands_by (is_newer p) p.statics

-- ---- the linkage section

unfoldable pub in_linkage : Bool → ℕ → ℕ → ℕ → Denoted
in_linkage newer statics links v = cond (ltb v 8) (HeadWord v) (cond newer (denoted_in_version_2 links v) (denoted_in_version_1 statics v))

pub past_head : (newer : Bool) (statics links v : ℕ) → 8 ≤ v → in_linkage newer statics links v ≡ cond newer (denoted_in_version_2 links v) (denoted_in_version_1 statics v)
unfolding in_linkage
past_head newer statics links v le = cond-false (ltb v 8) (HeadWord v) (cond newer (denoted_in_version_2 links v) (denoted_in_version_1 statics v)) (le-ltb v 8 le)

pub link_named : (newer : Bool) (statics links y : ℕ) → y < 2 * links → in_linkage newer statics links (cond newer 8 (8 + statics) + y) ≡ LinkWord y
link_named true statics links y lt =
    let v : ℕ = 8 + y in
    past_head true statics links v (omega arith)
    ∙ cond-true (ltb v (8 + 2 * links)) (LinkWord (v - 8)) (StaticWord (v - (8 + 2 * links))) (lt-ltb v (8 + 2 * links) (omega (arith, lt)))
    ∙ ap (λ n. LinkWord n) (let k : v - 8 ≡ y = omega arith in k)
link_named false statics links y lt =
    let v : ℕ = 8 + statics + y in
    past_head false statics links v (omega arith)
    ∙ cond-false (ltb v (8 + statics)) (StaticWord (v - 8)) (LinkWord (v - (8 + statics))) (le-ltb v (8 + statics) (omega arith))
    ∙ ap (λ n. LinkWord n) (let k : v - (8 + statics) ≡ y = omega arith in k)

pub links_move : LinksAreRelocated
unfolding relocated_number denoted in_linkage
links_move m i lt =
    let named = link_named m.shape.newer m.shape.statics m.shape.links (2 * i) (omega (arith, lt)) in
    ap (bound_number_of m.frame m.bases Linkage) named
    ∙ (let k : first_link m.frame + 2 * m.bases.links + 2 * i ≡ first_link m.frame + 2 * (m.bases.links + i) = omega arith in k)

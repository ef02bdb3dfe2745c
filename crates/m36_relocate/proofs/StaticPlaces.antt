-- The beginning of static words, by relocations and by the layout.
use Rattle.std.proofs.Common.{ℕ, ◌≡◌, ◌+◌, ◌-◌, ◌<◌, Bool, true, false, ltb, ap, ◌∙◌, arith}
use Rattle.std.proofs.lemmas.Bool.{lt-ltb, le-ltb, cond-true, cond-false}
use Rattle.m36_relocate.specs.Fields.{ShapeFields}
use Rattle.m36_relocate.specs.Layout.{denoted, denoted_in_version_1, static_word_place}
use Rattle.m36_relocate.specs.Words.{start_of, StaticStartAgrees}
use Rattle.m36_relocate.specs.declared.layout.Denoted.TheVariants.{StaticWord, LinkWord, HeadWord}

of_shape : Bool → ℕ → ℕ → ShapeFields
of_shape newer statics links = record { newer = newer; statics = statics; links = links }

begin_by : (newer : Bool) (statics links w : ℕ) → w < statics
    → denoted (of_shape newer statics links) (static_word_place (of_shape newer statics links) w).section (start_of true (of_shape newer statics links) + w) ≡ StaticWord w
unfolding denoted of_shape
begin_by true statics links w lt = ap (λ n. StaticWord n) (let k : 0 + w ≡ w = omega arith in k)
begin_by false statics links w lt =
    let v : ℕ = 8 + w in
    cond-false (ltb v 8) (HeadWord v) (denoted_in_version_1 statics v) (le-ltb v 8 (omega arith))
    ∙ cond-true (ltb v (8 + statics)) (StaticWord (v - 8)) (LinkWord (v - (8 + statics))) (lt-ltb v (8 + statics) (omega (arith, lt)))
    ∙ ap (λ n. StaticWord n) (let k : v - 8 ≡ w = omega arith in k)

pub statics_begin : StaticStartAgrees
unfolding of_shape
statics_begin s w lt = begin_by s.newer s.statics s.links w lt

-- The words to which numbers and places of the bound object refer.
use Rattle.std.proofs.Common.{ℕ, ◌≡◌, ◌+◌, ◌-◌, ◌*◌, ◌%◌, ◌^◌, ◌<◌, ◌≤◌, Bool, true, false, cond, ltb, length, refl, sym, ap, ◌∙◌, arith}
use Rattle.std.proofs.lemmas.Bool.{ltb-true, lt-ltb, le-ltb, cond-true, cond-false}
use Rattle.obj36_parts.specs.PartsFields.{PartsFields}
use Rattle.obj36_parts.specs.declared.section.Section.{Section}
use Rattle.obj36_parts.specs.declared.section.Section.TheVariants.{Text, Linkage, Symbol, Static}
use Rattle.m36_relocate.specs.Fields.{ShapeFields}
use Rattle.m36_relocate.specs.Layout.{shape_of, denoted, denoted_in_version_1, denoted_in_version_2, first_link, first_static, section_place, bound_place_of, static_word_place, relocated_place, bound_number_of, relocated_number}
use Rattle.m36_relocate.specs.declared.layout.Denoted.{Denoted}
use Rattle.m36_relocate.specs.declared.layout.Denoted.TheVariants.{TextWord, StaticWord, LinkWord, HeadWord}
use Rattle.m36_bind.specs.Components.{PlacedComponentFields, relocation_of}
use Rattle.m36_bind.specs.Meaning.{image, has_word, RefersToSameWord}
use Rattle.m36_relocate.proofs.LinkPlaces.{in_linkage, past_head, link_named}

-- The words of a component are among those of the bound object, whose numbers have 18 bits.
pub record IsWithin (bound : PartsFields) (p : PlacedComponentFields) : Type 0 where
  pub text : p.bases.text + length p.parts.text ≤ length bound.text
  pub statics : p.bases.statics + p.shape.statics ≤ length bound.statics
  pub links : p.bases.links + p.shape.links ≤ length bound.links
  pub few_text : length bound.text ≤ 2 ^ 18
  pub few_others : 8 + 2 * length bound.links + length bound.statics ≤ 2 ^ 18

-- ---- the linkage section

head_named : (newer : Bool) (statics links v : ℕ) → v < 8 → in_linkage newer statics links v ≡ HeadWord v
unfolding in_linkage
head_named newer statics links v lt = cond-true (ltb v 8) (HeadWord v) (cond newer (denoted_in_version_2 links v) (denoted_in_version_1 statics v)) (lt-ltb v 8 lt)

static_named : (newer : Bool) (statics links x : ℕ) → x < statics → in_linkage newer statics links (cond newer (8 + 2 * links) 8 + x) ≡ StaticWord x
static_named true statics links x lt =
    let v : ℕ = 8 + 2 * links + x in
    past_head true statics links v (omega arith)
    ∙ cond-false (ltb v (8 + 2 * links)) (LinkWord (v - 8)) (StaticWord (v - (8 + 2 * links))) (le-ltb v (8 + 2 * links) (omega arith))
    ∙ ap (λ n. StaticWord n) (let k : v - (8 + 2 * links) ≡ x = omega arith in k)
static_named false statics links x lt =
    let v : ℕ = 8 + x in
    past_head false statics links v (omega arith)
    ∙ cond-true (ltb v (8 + statics)) (StaticWord (v - 8)) (LinkWord (v - (8 + statics))) (lt-ltb v (8 + statics) (omega (arith, lt)))
    ∙ ap (λ n. StaticWord n) (let k : v - 8 ≡ x = omega arith in k)

small_is : (n : ℕ) → n < 2 ^ 18 → n % 2 ^ 18 ≡ n
small_is n lt = omega (arith, lt)

first_static_near : (newer : Bool) (links : ℕ) → cond newer (8 + 2 * links) 8 ≤ 8 + 2 * links
first_static_near true links = omega arith
first_static_near false links = omega arith

first_link_near : (newer : Bool) (statics : ℕ) → cond newer 8 (8 + statics) ≤ 8 + statics
first_link_near true statics = omega arith
first_link_near false statics = omega arith

module _ (bound : PartsFields) (p : PlacedComponentFields) (within : IsWithin bound p) where
  abbrev pub frame : ShapeFields
  frame = shape_of bound

  static_there : (w : ℕ) → ltb w p.shape.statics ≡ true
      → in_linkage frame.newer frame.statics frame.links ((first_static frame + (p.bases.statics + w)) % 2 ^ 18) ≡ StaticWord (p.bases.statics + w)
  static_there w there =
      let lt : w < p.shape.statics = ltb-true w p.shape.statics there in
      ap (in_linkage frame.newer frame.statics frame.links)
      (small_is (first_static frame + (p.bases.statics + w)) (omega (arith, lt, within.statics, within.few_others, first_static_near frame.newer frame.links)))
      ∙ static_named frame.newer frame.statics frame.links (p.bases.statics + w) (omega (arith, lt, within.statics))

  link_there : (k : ℕ) → ltb k (2 * p.shape.links) ≡ true
      → in_linkage frame.newer frame.statics frame.links ((first_link frame + 2 * p.bases.links + k) % 2 ^ 18) ≡ LinkWord (2 * p.bases.links + k)
  link_there k there =
      let lt : k < 2 * p.shape.links = ltb-true k (2 * p.shape.links) there in
      let n : first_link frame + 2 * p.bases.links + k ≡ first_link frame + (2 * p.bases.links + k) = omega arith in
      ap (in_linkage frame.newer frame.statics frame.links)
      (small_is (first_link frame + 2 * p.bases.links + k) (omega (arith, lt, within.links, within.few_others, first_link_near frame.newer frame.statics)) ∙ n)
      ∙ link_named frame.newer frame.statics frame.links (2 * p.bases.links + k) (omega (arith, lt, within.links))

  head_there : (v : ℕ) → ltb v 8 ≡ true → in_linkage frame.newer frame.statics frame.links (v % 2 ^ 18) ≡ HeadWord v
  head_there v there =
      let lt : v < 8 = ltb-true v 8 there in
      ap (in_linkage frame.newer frame.statics frame.links) (small_is v (omega (arith, lt))) ∙ head_named frame.newer frame.statics frame.links v lt

  text_there : (v : ℕ) → ltb v (length p.parts.text) ≡ true → TextWord ((p.bases.text + v) % 2 ^ 18) ≡ TextWord (p.bases.text + v)
  text_there v there =
      let lt : v < length p.parts.text = ltb-true v (length p.parts.text) there in
      ap (λ n. TextWord n) (small_is (p.bases.text + v) (omega (arith, lt, within.text, within.few_text)))

  own_static : (w : ℕ) → ltb w p.shape.statics ≡ true → StaticWord ((p.bases.statics + w) % 2 ^ 18) ≡ StaticWord (p.bases.statics + w)
  own_static w there =
      let lt : w < p.shape.statics = ltb-true w p.shape.statics there in
      ap (λ n. StaticWord n) (small_is (p.bases.statics + w) (omega (arith, lt, within.statics, within.few_others)))

  -- ---- numbers

  InLinkage : Denoted → Type 0
  InLinkage (TextWord v) = ⊥
  InLinkage (StaticWord w) = Unit {0}
  InLinkage (LinkWord k) = Unit {0}
  InLinkage (HeadWord v) = Unit {0}

  is_in_linkage : (a newer c d : Bool) (v w k x y : ℕ) → InLinkage (cond a (HeadWord v) (cond newer (cond c (LinkWord k) (StaticWord w)) (cond d (StaticWord x) (LinkWord y))))
  unfolding InLinkage
  is_in_linkage true newer c d v w k x y = tt
  is_in_linkage false true true d v w k x y = tt
  is_in_linkage false true false d v w k x y = tt
  is_in_linkage false false c true v w k x y = tt
  is_in_linkage false false c false v w k x y = tt

  linkage_number : (x : Denoted) → InLinkage x → has_word p x ≡ true
      → in_linkage frame.newer frame.statics frame.links (bound_number_of frame p.bases Linkage x % 2 ^ 18) ≡ image p.bases x
  unfolding InLinkage
  linkage_number (TextWord v) is there = absurd is
  linkage_number (StaticWord w) is there = static_there w there
  linkage_number (LinkWord k) is there = link_there k there
  linkage_number (HeadWord v) is there = head_there v there

  pub number_names : (target : Section) (old : ℕ) → RefersToSameWord bound p target old target (relocated_number (relocation_of frame p) target old % 2 ^ 18)
  unfolding relocated_number denoted in_linkage
  number_names Text old there = text_there old there
  number_names Static old there = own_static old there
  number_names Symbol old there = ap (λ n. HeadWord n) (small_is old (omega (arith, ltb-true old 8 there)))
  number_names Linkage old there =
      linkage_number (denoted p.shape Linkage old)
      (is_in_linkage (ltb old 8) p.shape.newer (ltb old (8 + 2 * p.shape.links)) (ltb old (8 + p.shape.statics)) old (old - (8 + 2 * p.shape.links)) (old - 8) (old - 8) (old - (8 + p.shape.statics)))
      there

  -- ---- places

  static_place : (newer : Bool) (w : ℕ) → frame.newer ≡ newer → ltb w p.shape.statics ≡ true
      → denoted frame (static_word_place frame (p.bases.statics + w)).section (static_word_place frame (p.bases.statics + w)).offset ≡ StaticWord (p.bases.statics + w)
  unfolding denoted in_linkage
  static_place true w is there =
      ap (λ b. denoted frame (cond b (section_place Static (p.bases.statics + w)) (section_place Linkage (8 + (p.bases.statics + w)))).section (cond b (section_place Static (p.bases.statics + w)) (section_place Linkage (8 + (p.bases.statics + w)))).offset) is
      ∙ own_static w there
  static_place false w is there =
      ap (λ b. denoted frame (cond b (section_place Static (p.bases.statics + w)) (section_place Linkage (8 + (p.bases.statics + w)))).section (cond b (section_place Static (p.bases.statics + w)) (section_place Linkage (8 + (p.bases.statics + w)))).offset) is
      ∙ ap (λ b. in_linkage frame.newer frame.statics frame.links ((cond b (8 + 2 * frame.links) 8 + (p.bases.statics + w)) % 2 ^ 18)) (sym is)
      ∙ static_there w there

  place_names : (x : Denoted) → has_word p x ≡ true → denoted frame (bound_place_of frame p.bases x).section (bound_place_of frame p.bases x).offset ≡ image p.bases x
  unfolding denoted in_linkage
  place_names (TextWord v) there = text_there v there
  place_names (StaticWord w) there = static_place frame.newer w refl there
  place_names (LinkWord k) there = link_there k there
  place_names (HeadWord v) there = head_there v there

  pub spot_names : (section : Section) (old : ℕ)
      → RefersToSameWord bound p section old (relocated_place (relocation_of frame p) section old).section (relocated_place (relocation_of frame p) section old).offset
  unfolding relocated_place
  spot_names section old there = place_names (denoted p.shape section old) there

-- The content of a segment is the words at its spots, which depend only on the tables.
use Rattle.std.proofs.Common.{◌≡◌, refl, sym, ◌∙◌, ap}
use Rattle.std.specs.Prelude.{ℕ, Bool, true, false, ◌&&◌, if◌then◌else◌, List, [], ◌∷◌, Some, Result, Ok, Err}
use Rattle.m36_desc.specs.Fields.{SdwFields, DbrFields}
use Rattle.m36_desc.specs.Access.{has_ordered_brackets}
use Rattle.m36_model.specs.Store.{Spot, Change, Store, is_within_bound, place, place_by, when_ordered, place_within, with_part_written}
use Rattle.m36_model.specs.Sight.{content_in, word_if_placed}
use Rattle.m36_model.specs.StoreLaw.{Each, same_spot, overlay, IsPlacedWord, Lawful}
use Rattle.m36_model.specs.declared.outcome.Refusal.{Refusal}

-- writes to other words do not change a word
pub overlay_none : (puts : List Change) (p : Spot) (v : ℕ) → Each (λ (c : Change). same_spot c.spot p ≡ false) puts → overlay puts p v ≡ v
overlay_none [] p v h = refl
overlay_none (c ∷ puts) p v h =
    let here = ap (λ (t : Bool). if t then with_part_written c.part v c.value else v) h.0 in
    ap (overlay puts p) here ∙ overlay_none puts p v h.1

module _ {S : Type 0} (o : Store S) (dbr : DbrFields) (Has : S → Type 0) (Lies : Spot → Type 0) (Near : S → S → Type 0) (L : Lawful o dbr Has Lies Near) where
  -- the place of a word, by the tables
  abbrev by_tables : ℕ → ℕ → Result Spot Refusal
  by_tables seg w = place_by (L.sdws seg) (λ d. L.spots d seg w) w

  ordered_place : (a b : Bool) (x y : Result Spot Refusal) → ((a && b) ≡ true → x ≡ y) → when_ordered a (place_within b x) ≡ when_ordered a (place_within b y)
  ordered_place true true x y h = h refl
  ordered_place true false x y h = refl
  ordered_place false b x y h = refl

  place_same : (s : S) → Has s → (seg w : ℕ) (v : Result SdwFields Refusal) → L.sdws seg ≡ v → place_by v (λ d. o.spot s dbr d seg w) w ≡ place_by v (λ d. L.spots d seg w) w
  place_same s h seg w (Err e) live = refl
  place_same s h seg w (Ok d) live =
      ordered_place (has_ordered_brackets d) (is_within_bound d w) _ _ (λ inside. L.spot_is s h seg w d live inside)

  pub place_tables : (s : S) → Has s → (seg w : ℕ) → place o s dbr seg w ≡ by_tables seg w
  unfolding place
  place_tables s h seg w =
      ap (λ (v : Result SdwFields Refusal). place_by v (λ d. o.spot s dbr d seg w) w) (L.sdw_is s h seg) ∙ place_same s h seg w (L.sdws seg) refl

  ordered_parts : (a b : Bool) (x : Result Spot Refusal) (p : Spot) → when_ordered a (place_within b x) ≡ Ok p → ((a && b) ≡ true) × (x ≡ Ok p)
  ordered_parts true true x p h = (refl, h)
  ordered_parts true false x p h = cc
  ordered_parts false b x p h = cc

  word_by : (seg w : ℕ) (p : Spot) (v : Result SdwFields Refusal) → L.sdws seg ≡ v → place_by v (λ d. L.spots d seg w) w ≡ Ok p → IsPlacedWord L.sdws L.spots seg w p
  word_by seg w p (Err e) live h = cc
  word_by seg w p (Ok d) live h =
      let k = ordered_parts (has_ordered_brackets d) (is_within_bound d w) (L.spots d seg w) p h in
      record { sdw = d; live = live; inside = k.0; found = k.1 }

  same_words : (s t : S) (seg w : ℕ) (v : Result Spot Refusal) → by_tables seg w ≡ v → ((p : Spot) → IsPlacedWord L.sdws L.spots seg w p → o.word s p ≡ o.word t p) → word_if_placed o s v ≡ word_if_placed o t v
  same_words s t seg w (Err e) found h = refl
  same_words s t seg w (Ok p) found h = ap (λ (x : ℕ). Some x) (h p (word_by seg w p (L.sdws seg) refl found))

  -- equal words mean equal content
  pub content_equal : (s t : S) → Has s → Has t → (seg w : ℕ) → ((p : Spot) → IsPlacedWord L.sdws L.spots seg w p → o.word s p ≡ o.word t p) → content_in o s dbr seg w ≡ content_in o t dbr seg w
  unfolding content_in
  content_equal s t h k seg w words =
      ap (word_if_placed o s) (place_tables s h seg w) ∙ same_words s t seg w (by_tables seg w) refl words ∙ sym (ap (word_if_placed o t) (place_tables t k seg w))

  -- equal content means equal words
  pub words_equal : (s t : S) → Has s → Has t → (seg w : ℕ) (p : Spot) → IsPlacedWord L.sdws L.spots seg w p → content_in o s dbr seg w ≡ content_in o t dbr seg w → o.word s p ≡ o.word t p
  words_equal s t h k seg w p word e =
      let here = L.word_is s h seg w p word in
      let there = L.word_is t k seg w p word in
      cc

-- The places of the words of components.
use Rattle.std.proofs.Common.{ℕ, zero, suc, ◌≡◌, ◌+◌, ◌-◌, ◌%◌, ◌<◌, ◌≤◌, Bool, true, false, cond, eqb, ltb, inl, inr, List, [], ◌∷◌, ◌++◌, length, refl, sym, ap, subst, ◌∙◌, arith}
use Rattle.std.specs.Prelude.{slice_index}
use Rattle.std.specs.List.{Contains}
use Rattle.std.proofs.lemmas.List.{length-append, get_or_append_left, get_or-append_right, get_or-append-add, get_or_past}
use Rattle.std.proofs.lemmas.Bool.{ltb-true, ltb-false}
use Rattle.obj36_parts.specs.PartsFields.{PartsFields}
use Rattle.m36_relocate.specs.Fields.{ShapeFields, BasesFields}
use Rattle.obj36_parts.specs.ObjectSegment.{rounded_up_to_even, padded_to_even}
use Rattle.m36_relocate.specs.Layout.{next_bases}
use Rattle.m36_relocate.specs.Words.{words_in}
use Rattle.m36_bind.specs.Components.{PlacedComponentFields, relocation_of}
use Rattle.m36_bind.specs.Bound.{component_words, with_component_words, statics_end, links_end}
use Rattle.m36_bind.specs.Meaning.{AreInOrder, IsOutside, start_in, words_end}
use Rattle.m36_bind.proofs.MovedWords.{words_long}

even_long : (words : List ℕ) → length (padded_to_even words) ≡ rounded_up_to_even (length words)
even_long words = by (length words % 2) refl
  where
    by : (r : ℕ) → length words % 2 ≡ r → length (cond (eqb r 0) words (words ++ 0 ∷ [])) ≡ length words + r
    by zero is = omega arith
    by (suc zero) is = length-append words (0 ∷ [])
    by (suc (suc r)) is = absurd (omega (arith, is))

start_behind : (statics : Bool) (b : BasesFields) (c : PartsFields) → start_in statics (next_bases b c) ≡ rounded_up_to_even (start_in statics b + length (words_in statics c))
start_behind true b c = refl
start_behind false b c = refl

module _ (frame : ShapeFields) (statics : Bool) where
  words_of_length : (p : PlacedComponentFields) → length (component_words frame statics p) ≡ length (words_in statics p.parts)
  words_of_length p = words_long (relocation_of frame p) statics p.parts.relocations (words_in statics p.parts)

  laid_prefix : (words : List ℕ) (all : List PlacedComponentFields) (j : ℕ) → j < length words → slice_index (with_component_words frame statics words all) j ≡ slice_index words j
  unfolding with_component_words
  laid_prefix words [] j lt = refl
  laid_prefix words (p ∷ all) j lt =
      let even : length (padded_to_even words) ≡ rounded_up_to_even (length words) = even_long words in
      let long : length (padded_to_even words ++ component_words frame statics p) ≡ length (padded_to_even words) + length (component_words frame statics p) =
      length-append (padded_to_even words) (component_words frame statics p)
      in
      laid_prefix (padded_to_even words ++ component_words frame statics p) all j (omega (arith, even, long, lt))
      ∙ get_or_append_left (padded_to_even words) (component_words frame statics p) 0 j (omega (arith, even, lt))
      ∙ by (eqb (length words % 2) 0)
    where
      by : (b : Bool) → slice_index (cond b words (words ++ 0 ∷ [])) j ≡ slice_index words j
      by true = refl
      by false = get_or_append_left words (0 ∷ []) 0 j lt

  laid_longer : (words : List ℕ) (all : List PlacedComponentFields) → length words ≤ length (with_component_words frame statics words all)
  unfolding with_component_words
  laid_longer words [] = omega arith
  laid_longer words (p ∷ all) =
      let even : length (padded_to_even words) ≡ rounded_up_to_even (length words) = even_long words in
      let long : length (padded_to_even words ++ component_words frame statics p) ≡ length (padded_to_even words) + length (component_words frame statics p) =
      length-append (padded_to_even words) (component_words frame statics p)
      in
      omega (arith, even, long, laid_longer (padded_to_even words ++ component_words frame statics p) all)

  -- the words after those of a component begin where the next component does
  next_start : (words : List ℕ) (b : BasesFields) (p : PlacedComponentFields) → rounded_up_to_even (length words) ≡ start_in statics b
      → rounded_up_to_even (length (padded_to_even words ++ component_words frame statics p)) ≡ start_in statics (next_bases b p.parts)
  next_start words b p starts =
      ap rounded_up_to_even
      (length-append (padded_to_even words) (component_words frame statics p)
      ∙ (λ i. (even_long words ∙ starts) i + words_of_length p i))
      ∙ sym (start_behind statics b p.parts)

  pub laid_at : (words : List ℕ) (b : BasesFields) (all : List PlacedComponentFields) (p : PlacedComponentFields) (i : ℕ) → AreInOrder b all → rounded_up_to_even (length words) ≡ start_in statics b → Contains all p
      → i < length (words_in statics p.parts)
      → slice_index (with_component_words frame statics words all) (start_in statics p.bases + i) ≡ slice_index (component_words frame statics p) i
  unfolding with_component_words AreInOrder
  laid_at words b [] p i order starts among lt = absurd (omega (arith, among.1))
  laid_at words b (q ∷ all) p i order starts (zero, le, same) lt =
      let even : length (padded_to_even words) ≡ start_in statics p.bases =
      even_long words ∙ starts ∙ ap (start_in statics) (sym order.0) ∙ ap (λ (x : PlacedComponentFields). start_in statics x.bases) same
      in
      let long : length (padded_to_even words ++ component_words frame statics p) ≡ length (padded_to_even words) + length (component_words frame statics p) =
      length-append (padded_to_even words) (component_words frame statics p)
      in
      ap (λ (x : PlacedComponentFields). slice_index (with_component_words frame statics (padded_to_even words ++ component_words frame statics x) all) (start_in statics p.bases + i)) same
      ∙ laid_prefix (padded_to_even words ++ component_words frame statics p) all (start_in statics p.bases + i) (omega (arith, even, long, words_of_length p, lt))
      ∙ ap (λ n. slice_index (padded_to_even words ++ component_words frame statics p) (n + i)) (sym even)
      ∙ get_or-append-add (padded_to_even words) (component_words frame statics p) i 0
  laid_at words b (q ∷ all) p i order starts (suc k, le, same) lt =
      laid_at (padded_to_even words ++ component_words frame statics q) (next_bases b q.parts) all p i order.2 (next_start words b q starts) (k, omega (arith, le), same) lt

  pub laid_within : (words : List ℕ) (b : BasesFields) (all : List PlacedComponentFields) (p : PlacedComponentFields) → AreInOrder b all → rounded_up_to_even (length words) ≡ start_in statics b → Contains all p
      → start_in statics p.bases + length (words_in statics p.parts) ≤ length (with_component_words frame statics words all)
  unfolding with_component_words AreInOrder
  laid_within words b [] p order starts among = absurd (omega (arith, among.1))
  laid_within words b (q ∷ all) p order starts (zero, le, same) =
      let even : length (padded_to_even words) ≡ start_in statics q.bases = even_long words ∙ starts ∙ ap (start_in statics) (sym order.0) in
      let long : length (padded_to_even words ++ component_words frame statics q) ≡ length (padded_to_even words) + length (component_words frame statics q) =
      length-append (padded_to_even words) (component_words frame statics q)
      in
      let more : length (padded_to_even words ++ component_words frame statics q) ≤ length (with_component_words frame statics (padded_to_even words ++ component_words frame statics q) all) =
      laid_longer (padded_to_even words ++ component_words frame statics q) all
      in
      subst (λ (x : PlacedComponentFields). start_in statics x.bases + length (words_in statics x.parts) ≤ length (with_component_words frame statics (padded_to_even words ++ component_words frame statics q) all)) same
      (omega (arith, even, long, more, words_of_length q))
  laid_within words b (q ∷ all) p order starts (suc k, le, same) =
      laid_within (padded_to_even words ++ component_words frame statics q) (next_bases b q.parts) all p order.2 (next_start words b q starts) (k, omega (arith, le), same)

-- ---- the words between components
zero_any : (k : ℕ) → slice_index (0 ∷ []) k ≡ 0
zero_any zero = refl
zero_any (suc k) = refl

-- the word that is added to an odd number of words is zero
even_zero : (words : List ℕ) (j : ℕ) → length words ≤ j → j < length (padded_to_even words) → slice_index (padded_to_even words) j ≡ 0
even_zero words j le lt = by (eqb (length words % 2) 0) lt
  where
    by : (b : Bool) → j < length (cond b words (words ++ 0 ∷ [])) → slice_index (cond b words (words ++ 0 ∷ [])) j ≡ 0
    by true small = absurd (omega (arith, small, le))
    by false small = get_or-append_right words (0 ∷ []) (length words) j 0 refl le ∙ zero_any (j - length words)

pub laid_gap : (frame : ShapeFields) (statics : Bool) (words : List ℕ) (b : BasesFields) (all : List PlacedComponentFields) (j : ℕ) → AreInOrder b all
    → rounded_up_to_even (length words) ≡ start_in statics b → length words ≤ j → ((p : PlacedComponentFields) → Contains all p → IsOutside statics p j)
    → slice_index (with_component_words frame statics words all) j ≡ 0
unfolding with_component_words AreInOrder
laid_gap frame statics words b [] j order starts le outside = get_or_past words j 0 le
laid_gap frame statics words b (p ∷ all) j order starts le outside =
    by (ltb j (length (padded_to_even words ++ component_words frame statics p))) refl (outside p (zero, omega arith, refl))
    (λ past.
    laid_gap frame statics (padded_to_even words ++ component_words frame statics p) (next_bases b p.parts) all j order.2 (next_start frame statics words b p starts) past
    (λ q among. outside q (suc among.0, omega (arith, among.1), among.2)))
  where
    even : length (padded_to_even words) ≡ start_in statics p.bases
    even = even_long words ∙ starts ∙ ap (start_in statics) (sym order.0)

    long : length (padded_to_even words ++ component_words frame statics p) ≡ length (padded_to_even words) + length (component_words frame statics p)
    long = length-append (padded_to_even words) (component_words frame statics p)

    by : (c : Bool) → ltb j (length (padded_to_even words ++ component_words frame statics p)) ≡ c → IsOutside statics p j
        → (length (padded_to_even words ++ component_words frame statics p) ≤ j → slice_index (with_component_words frame statics (padded_to_even words ++ component_words frame statics p) all) j ≡ 0)
        → slice_index (with_component_words frame statics (padded_to_even words ++ component_words frame statics p) all) j ≡ 0
    by true is (inl before) go =
        let small : j < length (padded_to_even words) = (let e : length (padded_to_even words) ≡ start_in statics p.bases = even in omega (arith, e, before)) in
        laid_prefix frame statics (padded_to_even words ++ component_words frame statics p) all j (ltb-true j _ is)
        ∙ get_or_append_left (padded_to_even words) (component_words frame statics p) 0 j small
        ∙ even_zero words j le small
    by true is (inr behind) go =
        let e : length (padded_to_even words) ≡ start_in statics p.bases = even in
        let l : length (padded_to_even words ++ component_words frame statics p) ≡ length (padded_to_even words) + length (component_words frame statics p) = long in
        absurd (omega (arith, ltb-true j _ is, e, l, words_of_length frame statics p, behind))
    by false is outside go = go (ltb-false j _ is)

-- ---- the numbers of static words and of links

pub statics_long : (frame : ShapeFields) (words : List ℕ) (b : BasesFields) (all : List PlacedComponentFields) → AreInOrder b all → rounded_up_to_even (length words) ≡ b.statics
    → length (with_component_words frame true words all) ≡ statics_end (length words) all
unfolding with_component_words statics_end AreInOrder
statics_long frame words b [] order starts = refl
statics_long frame words b (p ∷ all) order starts =
    let long : length (padded_to_even words ++ component_words frame true p) ≡ p.bases.statics + p.shape.statics =
    length-append (padded_to_even words) (component_words frame true p)
    ∙ (λ i. (even_long words ∙ starts ∙ ap (λ (x : BasesFields). x.statics) (sym order.0)) i + (words_of_length frame true p ∙ ap (λ (s : ShapeFields). s.statics) (sym order.1)) i)
    in
    statics_long frame (padded_to_even words ++ component_words frame true p) (next_bases b p.parts) all order.2 (next_start frame true words b p starts)
    ∙ ap (λ n. statics_end n all) long

pub links_grow : (b : BasesFields) (all : List PlacedComponentFields) → AreInOrder b all → b.links ≤ links_end b.links all
unfolding links_end AreInOrder
links_grow b [] order = omega arith
links_grow b (p ∷ all) order =
    let next : p.bases.links + p.shape.links ≡ b.links + length p.parts.links = (λ i. (order.0 i).links + (order.1 i).links) in
    let more : b.links + length p.parts.links ≤ links_end (b.links + length p.parts.links) all = links_grow (next_bases b p.parts) all order.2 in
    subst (λ n. b.links ≤ links_end n all) (sym next) (omega (arith, more))

pub links_within : (b : BasesFields) (all : List PlacedComponentFields) (p : PlacedComponentFields) → AreInOrder b all → Contains all p → p.bases.links + p.shape.links ≤ links_end b.links all
unfolding links_end AreInOrder
links_within b [] p order among = absurd (omega (arith, among.1))
links_within b (q ∷ all) p order (zero, le, same) =
    let next : q.bases.links + q.shape.links ≡ b.links + length q.parts.links = (λ i. (order.0 i).links + (order.1 i).links) in
    let more : b.links + length q.parts.links ≤ links_end (b.links + length q.parts.links) all = links_grow (next_bases b q.parts) all order.2 in
    subst (λ (x : PlacedComponentFields). x.bases.links + x.shape.links ≤ links_end (q.bases.links + q.shape.links) all) same
    (subst (λ n. n ≤ links_end n all) (sym next) more)
links_within b (q ∷ all) p order (suc k, le, same) =
    let next : q.bases.links + q.shape.links ≡ b.links + length q.parts.links = (λ i. (order.0 i).links + (order.1 i).links) in
    subst (λ n. p.bases.links + p.shape.links ≤ links_end n all) (sym next)
    (links_within (next_bases b q.parts) all p order.2 (k, omega (arith, le), same))

pub words_count : (frame : ShapeFields) (statics : Bool) (words : List ℕ) (b : BasesFields) (all : List PlacedComponentFields) → AreInOrder b all → rounded_up_to_even (length words) ≡ start_in statics b
    → length (with_component_words frame statics words all) ≡ words_end statics (length words) all
unfolding with_component_words words_end AreInOrder
words_count frame statics words b [] order starts = refl
words_count frame statics words b (p ∷ all) order starts =
    let long : length (padded_to_even words ++ component_words frame statics p) ≡ start_in statics p.bases + length (words_in statics p.parts) =
    length-append (padded_to_even words) (component_words frame statics p)
    ∙ (λ i. (even_long words ∙ starts ∙ ap (start_in statics) (sym order.0)) i + words_of_length frame statics p i)
    in
    words_count frame statics (padded_to_even words ++ component_words frame statics p) (next_bases b p.parts) all order.2 (next_start frame statics words b p starts)
    ∙ ap (λ n. words_end statics n all) long

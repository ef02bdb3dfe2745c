-- A link service lays the first linkage section of a ring as the image of a start does.
use Rattle.std.proofs.Common.{◌≡◌, refl, sym, ◌∙◌, ap, subst, inl, inr, arith}
use Rattle.std.proofs.lemmas.Bool.{eqb-true, cases_lt}
use Rattle.std.proofs.lemmas.List.{length-replicate, get_or_past, get_or_append_left, get_or-append_right}
use Rattle.std.specs.Prelude.{ℕ, zero, suc, ◌+◌, ◌-◌, ◌<◌, ◌≤◌, Bool, true, false, ◌&&◌, ◌==◌, if◌then◌else◌, List, [], ◌∷◌, ◌++◌, length, replicate, slice_index, Some}
use Rattle.m36_model.specs.Act.{Whole}
use Rattle.m36_model.specs.Store.{Segment_word}
use Rattle.m36_model.specs.Flat.{Flat, flat_put, flat_put_one}
use Rattle.m36_link.specs.Fields.{NewSectionFields}
use Rattle.m36_link.specs.Known.{nothing_known, linkage_segment, lot_words, lot_word}
use Rattle.m36_link.specs.Accepted.{IsNextSection}
use Rattle.m36_boot.specs.Segments.{lot_of, linkage_words}
use Rattle.m36_boot.proofs.FirstSection.{base_first}
use Rattle.m36_boot.proofs.LaidCore.{zeros_at}
use Rattle.m36_boot.proofs.Sizes.{lot_size}
use Rattle.m36_super.specs.Laying.{written_from, section_changes}
use Rattle.m36_super.specs.LayingLaw.{LayingLaw}
use Rattle.m36_super.proofs.LinkTurns.{put-append}
use Rattle.m36_super.proofs.PagedContents.{same_test, both_same}

-- ---- tests

not_same : (a b : ℕ) → ((a ≡ b) → ⊥) → (a == b) ≡ false
not_same a b apart = by_test (a == b) refl
  where
    by_test : (t : Bool) → (a == b) ≡ t → (a == b) ≡ false
    by_test true e = absurd (apart (eqb-true a b e))
    by_test false e = e

second_false : (a b : Bool) → b ≡ false → (a && b) ≡ false
second_false true b e = e
second_false false b e = refl

first_false : (a b : Bool) → a ≡ false → (a && b) ≡ false
first_false a b e = ap (λ (s : Bool). s && b) e

-- ---- words one after another

one_stays : (f : Flat) (seg at v seg' w : ℕ) → ((seg == seg') && (at == w)) ≡ false → (flat_put_one f (Segment_word seg at) Whole v).content seg' w ≡ f.content seg' w
one_stays f seg at v seg' w e = ap (λ (b : Bool). if b then v else f.content seg' w) e

one_here : (f : Flat) (seg at v : ℕ) → (flat_put_one f (Segment_word seg at) Whole v).content seg at ≡ v
one_here f seg at v = ap (λ (b : Bool). if b then v else f.content seg at) (both_same seg at)

-- a word other than those that are written
stays : (f : Flat) (seg at : ℕ) (words : List ℕ) (seg' w : ℕ) → ((k : ℕ) → k < length words → ((seg == seg') && ((at + k) == w)) ≡ false)
    → (flat_put f (written_from seg at words)).content seg' w ≡ f.content seg' w
unfolding flat_put written_from
stays f seg at [] seg' w apart = refl
stays f seg at (v ∷ words) seg' w apart =
    let P : ℕ → Type 0 = λ n. ((seg == seg') && (n == w)) ≡ false in
    let none : at + 0 ≡ at = omega arith in
    let first : P at = subst P none (apart 0 (omega arith)) in
    let others : (k : ℕ) → k < length words → P (at + 1 + k) = λ k lt. (let same : at + suc k ≡ at + 1 + k = omega arith in subst P same (apart (suc k) (omega (arith, lt)))) in
    stays (flat_put_one f (Segment_word seg at) Whole v) seg (at + 1) words seg' w others ∙ one_stays f seg at v seg' w first

-- a word that is written
written_at : (f : Flat) (seg at k : ℕ) (words : List ℕ) → k < length words → (flat_put f (written_from seg at words)).content seg (at + k) ≡ slice_index words k
unfolding flat_put written_from
written_at f seg at k [] lt = absurd (omega (arith, lt))
written_at f seg at zero (v ∷ words) lt =
    let g : Flat = flat_put_one f (Segment_word seg at) Whole v in
    let P : ℕ → Type 0 = λ n. (flat_put g (written_from seg (at + 1) words)).content seg n ≡ v in
    let none : at ≡ at + 0 = omega arith in
    let apart : (j : ℕ) → j < length words → ((seg == seg) && ((at + 1 + j) == at)) ≡ false = λ j few. second_false (seg == seg) ((at + 1 + j) == at) (not_same (at + 1 + j) at (λ e. omega (arith, e))) in
    subst P none (stays g seg (at + 1) words seg at apart ∙ one_here f seg at v)
written_at f seg at (suc k) (v ∷ words) lt =
    let g : Flat = flat_put_one f (Segment_word seg at) Whole v in
    let P : ℕ → Type 0 = λ n. (flat_put g (written_from seg (at + 1) words)).content seg n ≡ slice_index words k in
    let next : at + 1 + k ≡ at + suc k = omega arith in
    subst P next (written_at g seg (at + 1) k words (omega (arith, lt)))

-- ---- the first section of a ring, among zeros

module _ (l : NewSectionFields) (f : Flat) (base : l.base ≡ 1024) (low : l.seg < 1024) (zeros : (w : ℕ) → f.content (linkage_segment l.ring) w ≡ 0) where
  abbrev place : ℕ
  place = linkage_segment l.ring

  abbrev lot : List ℕ
  lot = lot_word l ∷ []

  abbrev section : Flat
  section = flat_put f (written_from place l.base l.words)

  abbrev after : Flat
  after = flat_put section (written_from place l.seg lot)

  -- the word of the linkage offset table
  lot_here : after.content place l.seg ≡ lot_word l
  unfolding flat_put written_from
  lot_here = one_here section place l.seg (lot_word l)

  not_lot : (w : ℕ) → ((l.seg ≡ w) → ⊥) → after.content place w ≡ section.content place w
  not_lot w apart =
      stays section place l.seg lot place w (λ k few.
      let one : k < 1 = few in
      second_false (place == place) ((l.seg + k) == w) (not_same (l.seg + k) w (λ e. apart (omega (arith, one, e)))))

  not_section : (w : ℕ) → ((k : ℕ) → k < length l.words → (l.base + k ≡ w) → ⊥) → section.content place w ≡ 0
  not_section w apart =
      stays f place l.base l.words place w (λ k few.
      second_false (place == place) ((l.base + k) == w) (not_same (l.base + k) w (apart k few)))
      ∙ zeros w

  -- no word of the section is in the table
  below : (w : ℕ) → w < 1024 → section.content place w ≡ 0
  below w lt = not_section w (λ k few e. omega (arith, e, base, lt))

  abbrev front : List ℕ
  front = replicate l.seg 0

  abbrev back : List ℕ
  back = lot_word l ∷ replicate (lot_words - 1 - l.seg) 0

  front_size : length front ≡ l.seg
  front_size = let nought : ℕ = 0 in length-replicate l.seg nought

  -- the linkage offset table
  table_here : slice_index (lot_of l) l.seg ≡ lot_word l
  table_here =
      let none : l.seg - l.seg ≡ 0 = omega arith in
      get_or-append_right front back l.seg l.seg 0 front_size (omega arith) ∙ ap (λ (i : ℕ). slice_index back i) none

  table_at : (w : ℕ) → w < 1024 → after.content place w ≡ slice_index (lot_of l) w
  table_at w lt =
      elim (cases_lt w l.seg) [
        | inl before ↦
            let size = front_size in
            not_lot w (λ e. omega (arith, e, before)) ∙ below w lt
            ∙ sym (get_or_append_left front back 0 w (omega (arith, size, before)) ∙ zeros_at l.seg w 0)
        | inr from ↦
            elim (cases_lt l.seg w) [
              | inl past ↦
                  let next : w - l.seg ≡ suc (w - l.seg - 1) = omega (arith, past) in
                  not_lot w (λ e. omega (arith, e, past)) ∙ below w lt
                  ∙ sym (get_or-append_right front back l.seg w 0 front_size from ∙ ap (λ (i : ℕ). slice_index back i) next ∙ zeros_at (lot_words - 1 - l.seg) (w - l.seg - 1) 0)
              | inr least ↦
                  let P : ℕ → Type 0 = λ n. after.content place n ≡ slice_index (lot_of l) n in
                  let same : l.seg ≡ w = omega (arith, from, least) in
                  subst P same (lot_here ∙ sym table_here)
            ]
      ]

  -- the words after the table
  section_at : (w : ℕ) → 1024 ≤ w → section.content place w ≡ slice_index l.words (w - 1024)
  section_at w high =
      elim (cases_lt (w - 1024) (length l.words)) [
        | inl inside ↦
            let P : ℕ → Type 0 = λ n. section.content place n ≡ slice_index l.words (w - 1024) in
            let same : l.base + (w - 1024) ≡ w = omega (arith, base, high) in
            subst P same (written_at f place l.base (w - 1024) l.words inside)
        | inr past ↦
            not_section w (λ k few e. omega (arith, e, few, base, past, high)) ∙ sym (get_or_past l.words (w - 1024) 0 past)
      ]

  words_at : (w : ℕ) → after.content place w ≡ slice_index (lot_of l ++ l.words) w
  words_at w =
      let size : length (lot_of l) ≡ 1024 = lot_size l low in
      elim (cases_lt w 1024) [
        | inl lt ↦ table_at w lt ∙ sym (get_or_append_left (lot_of l) l.words 0 w (omega (arith, size, lt)))
        | inr high ↦
            not_lot w (λ e. omega (arith, e, low, high)) ∙ section_at w high
            ∙ sym (get_or-append_right (lot_of l) l.words 1024 w 0 size high)
      ]

laid_both : (l : NewSectionFields) (f : Flat) → flat_put f (section_changes (Some l)) ≡ flat_put (flat_put f (written_from (linkage_segment l.ring) l.base l.words)) (written_from (linkage_segment l.ring) l.seg (lot_word l ∷ []))
unfolding section_changes
laid_both l f =
    put-append f (written_from (linkage_segment l.ring) l.base l.words) (written_from (linkage_segment l.ring) l.seg (lot_word l ∷ []))

words_are : (l : NewSectionFields) (w : ℕ) → slice_index (linkage_words (Some l) l.ring) w ≡ slice_index (lot_of l ++ l.words) w
unfolding linkage_words
words_are l w = ap (λ (b : Bool). slice_index (if b then lot_of l ++ l.words else []) w) (same_test l.ring)

laid_here : (l : NewSectionFields) (f : Flat) → IsNextSection nothing_known l → l.seg < lot_words → ((w : ℕ) → f.content (linkage_segment l.ring) w ≡ 0) → (w : ℕ)
    → (flat_put f (section_changes (Some l))).content (linkage_segment l.ring) w ≡ slice_index (linkage_words (Some l) l.ring) w
laid_here l f next low zeros w =
    ap (λ (g : Flat). g.content (linkage_segment l.ring) w) (laid_both l f)
    ∙ words_at l f (next.base ∙ base_first l.ring) low zeros w
    ∙ sym (words_are l w)

laid_elsewhere : (l : NewSectionFields) (f : Flat) (seg w : ℕ) → ((seg ≡ linkage_segment l.ring) → ⊥) → (flat_put f (section_changes (Some l))).content seg w ≡ f.content seg w
laid_elsewhere l f seg w apart =
    let place : ℕ = linkage_segment l.ring in
    let other : (place == seg) ≡ false = not_same place seg (λ e. apart (sym e)) in
    let section : Flat = flat_put f (written_from (linkage_segment l.ring) l.base l.words) in
    ap (λ (g : Flat). g.content seg w) (laid_both l f)
    ∙ stays section (linkage_segment l.ring) l.seg (lot_word l ∷ []) seg w (λ k few. first_false (linkage_segment l.ring == seg) ((l.seg + k) == w) other)
    ∙ stays f (linkage_segment l.ring) l.base l.words seg w (λ k few. first_false (linkage_segment l.ring == seg) ((l.base + k) == w) other)

pub laying_law : LayingLaw
laying_law = record { here = laid_here; elsewhere = laid_elsewhere }

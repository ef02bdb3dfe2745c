-- The frames that page table words name, and the words of pages.
use Rattle.std.proofs.Common.{ℕ, ◌≡◌, ◌+◌, ◌-◌, ◌*◌, ◌/◌, ◌%◌, ◌^◌, ◌<◌, ◌≤◌, ◌⊎◌, true, false, cond, List, length, get_or, set, Option, Some, None, refl, sym, ap, subst, inl, inr, ◌∙◌, arith}
use Rattle.std.specs.Prelude.{nat_eq, IsSome}
use Rattle.std.proofs.lemmas.Bool.{eq-eqb, eqb-true, ne_eqb, cases_Bool, cases_eq, cases_lt}
use Rattle.std.proofs.lemmas.List.{get_or_past, get_or-set_same, get_or-set_other, length-set}
use Rattle.m36_model.specs.Core.{unmarked}
use Rattle.m36_model.specs.Place.{without_used}
use Rattle.m36_model.specs.declared.place.Reference.{Reference}
use Rattle.m36_page.specs.Fields.{PagerFields}
use Rattle.m36_page.specs.Changes.{is_pinned, OnlyMarkCleared}
use Rattle.m36_page.specs.Choice.{ClearsMarksAt, IsHeldSpot, AreInCore}
use Rattle.std.specs.Bool.{then_some}
use Rattle.m36_page.specs.Residence.{has_page, spot_of, kept_word, absent_ptw, resident_ptw, frame_in, frame_of, word_in, page_word, content_of, Holds, IsConsistent}

-- ---- page table words

pub frame_absent : (w : ℕ) → unmarked w ≡ absent_ptw → frame_in w ≡ None
unfolding unmarked frame_in
frame_absent w e =
    let off : nat_eq (w / 2 ^ 2 % 2 ^ 1) 1 ≡ false = ne_eqb (w / 2 ^ 2 % 2 ^ 1) 1 (λ on. absurd (omega (arith, on, e))) in
    ap (λ b. cond b (Some (w / 2 ^ 18 % 2 ^ 18 / 16)) None) off

pub frame_resident : (w frame : ℕ) → frame < 16384 → unmarked w ≡ resident_ptw frame → frame_in w ≡ Some frame
unfolding unmarked frame_in
frame_resident w frame few e =
    let on : nat_eq (w / 2 ^ 2 % 2 ^ 1) 1 ≡ true = eq-eqb (w / 2 ^ 2 % 2 ^ 1) 1 (omega (arith, e)) in
    let is : w / 2 ^ 18 % 2 ^ 18 / 16 ≡ frame = omega (arith, e, few) in
    ap (λ b. cond b (Some (w / 2 ^ 18 % 2 ^ 18 / 16)) None) on ∙ ap (λ f. Some f) is

pub absent_unmarked : unmarked absent_ptw ≡ absent_ptw
unfolding unmarked
absent_unmarked = refl

pub resident_unmarked : (frame : ℕ) → unmarked (resident_ptw frame) ≡ resident_ptw frame
unfolding unmarked
resident_unmarked frame = omega arith

-- ---- a pager and its core before a call

pub held_inside : (holders : List (Option (ℕ × ℕ))) (k : ℕ) (h : ℕ × ℕ) → get_or holders k None ≡ Some h → k < length holders
held_inside holders k h e =
    elim (cases_lt k (length holders)) [
      | inl inside ↦ inside
      | inr past ↦ let none = get_or_past holders k None past in absurd (cc)
    ]

pub bounded : (p : PagerFields) (core : List ℕ) (k seg page : ℕ) → IsConsistent p core → Holds p k seg page
    → (k < length p.holders) × (p.first + k < 16384)
bounded p core k seg page s h =
    let inside = held_inside p.holders k (seg, page) h in
    let room = s.frames in
    let most = s.most in
    (inside, omega (arith, inside, room, most))

-- a page is in no frame, or in the one that holds it
pub record IsIn (p : PagerFields) (core : List ℕ) (seg page : ℕ) : Type 0 where
  pub k : ℕ
  pub holds : Holds p k seg page
  pub inside : k < length p.holders
  pub frame : frame_of p core seg page ≡ Some (p.first + k)
  pub word : unmarked (get_or core (spot_of p seg page) 0) ≡ resident_ptw (p.first + k)

pub record IsOut (p : PagerFields) (core : List ℕ) (seg page : ℕ) : Type 0 where
  pub frame : frame_of p core seg page ≡ None
  pub word : unmarked (get_or core (spot_of p seg page) 0) ≡ absent_ptw

pub whereabouts : (p : PagerFields) (core : List ℕ) (seg page : ℕ) → IsConsistent p core → has_page p seg page ≡ true
    → IsOut p core seg page ⊎ IsIn p core seg page
unfolding frame_of
whereabouts p core seg page s has =
    elim (s.reads.pages seg page has) [
      | inl absent ↦ inl (record { frame = frame_absent (get_or core (spot_of p seg page) 0) absent; word = absent })
      | inr there ↦
          let b = bounded p core there.0 seg page s there.1 in
          inr (record {
            k = there.0;
            holds = there.1;
            inside = b.0;
            frame = frame_resident (get_or core (spot_of p seg page) 0) (p.first + there.0) b.1 there.2;
            word = there.2;
          })
    ]

-- ---- content

pub content_same : (old : PagerFields) (core : List ℕ) (new : PagerFields) (now : List ℕ)
    → ((seg page : ℕ) → has_page new seg page ≡ has_page old seg page)
    → ((seg w : ℕ) → has_page old seg (w / 1024) ≡ true → page_word new now seg w ≡ page_word old core seg w)
    → (seg w : ℕ) → content_of new now seg w ≡ content_of old core seg w
unfolding content_of
content_same old core new now pages words seg w =
    elim (cases_Bool (has_page old seg (w / 1024))) [
      | inl has ↦
          ap (λ b. then_some b (page_word new now seg w)) (pages seg (w / 1024))
          ∙ ap (λ v. then_some (has_page old seg (w / 1024)) v) (words seg w has)
      | inr lacks ↦
          ap (λ b. then_some b (page_word new now seg w)) (pages seg (w / 1024) ∙ lacks)
          ∙ sym (ap (λ b. then_some b (page_word old core seg w)) lacks)
    ]

word_by : (f : Option ℕ) (core now : List ℕ) (w kept kept' : ℕ) → (f ≡ None → kept' ≡ kept)
    → ((frame : ℕ) → f ≡ Some frame → get_or now (1024 * frame + w % 1024) 0 ≡ get_or core (1024 * frame + w % 1024) 0)
    → word_in f now w kept' ≡ word_in f core w kept
word_by None core now w kept kept' none some = none refl
word_by (Some frame) core now w kept kept' none some = some frame refl

-- a page that stays where it is has the same words
pub word_stays : (old : PagerFields) (core : List ℕ) (new : PagerFields) (now : List ℕ) (seg w : ℕ)
    → frame_of new now seg (w / 1024) ≡ frame_of old core seg (w / 1024)
    → (frame_of old core seg (w / 1024) ≡ None → kept_word new seg w ≡ kept_word old seg w)
    → ((frame : ℕ) → frame_of old core seg (w / 1024) ≡ Some frame
    → get_or now (1024 * frame + w % 1024) 0 ≡ get_or core (1024 * frame + w % 1024) 0)
    → page_word new now seg w ≡ page_word old core seg w
unfolding page_word
word_stays old core new now seg w frame none some =
    ap (λ f. word_in f now w (kept_word new seg w)) frame
    ∙ word_by (frame_of old core seg (w / 1024)) core now w (kept_word old seg w) (kept_word new seg w) none some

-- ---- marks

pub unused_unmarked : (w : ℕ) → unmarked (without_used w) ≡ unmarked w
unfolding unmarked without_used
unused_unmarked w = omega arith

unused_twice : (w : ℕ) → without_used (without_used w) ≡ without_used w
unfolding without_used
unused_twice w = omega arith

unused_word : (w v : ℕ) → w / 2 ^ 9 % 2 ^ 1 ≡ 1 → v ≡ w - 512 → v ≡ without_used w
unfolding without_used
unused_word w v on is = omega (arith, on, is)

unused_set : (core : List ℕ) (spot v : ℕ) → spot < length core → v ≡ without_used (get_or core spot 0)
    → ClearsMarksAt core (set core spot v) (λ a. a ≡ spot)
unused_set core spot v inside is = record {
  size = length-set core spot v;
  each = λ a.
      elim (cases_eq a spot) [
        | inl same ↦
            inr (
              same,
              ap (λ x. get_or (set core spot v) x 0) same ∙ get_or-set_same core spot v 0 inside ∙ is
                  ∙ ap (λ x. without_used (get_or core x 0)) (sym same),
            )
        | inr other ↦ inl (get_or-set_other core spot a v 0 other)
      ];
}

pub unused : (core now : List ℕ) (spot w v : ℕ) → spot < length core → w ≡ get_or core spot 0 → w < 2 ^ 36
    → nat_eq (get_or core spot 0 / 2 ^ 9 % 2 ^ 1) 1 ≡ true → v ≡ (w - 512) % 2 ^ 36 → now ≡ set core spot v
    → ClearsMarksAt core now (λ a. a ≡ spot)
unused core now spot w v inside is few on value e =
    let P : List ℕ → Type 0 = λ n. ClearsMarksAt core n (λ a. a ≡ spot) in
    let bit = eqb-true (get_or core spot 0 / 2 ^ 9 % 2 ^ 1) 1 on in
    let less : v ≡ get_or core spot 0 - 512 = omega (arith, is, few, value) in
    subst P (sym e) (unused_set core spot v inside (unused_word (get_or core spot 0) v bit less))

some_held : (o : Option (ℕ × ℕ)) → IsSome o → (h : ℕ × ℕ) × (o ≡ Some h)
some_held None none = absurd (cc)
some_held (Some h) some = (h, refl)

pub held_in_core : (holders : List (Option (ℕ × ℕ))) (spots first core : List ℕ) (k : ℕ) → AreInCore holders spots first
    → length core ≡ length first → IsSome (get_or holders k None) → get_or spots k 0 < length core
held_in_core holders spots first core k inside size some =
    let h = some_held (get_or holders k None) some in
    let below = inside k h.0 h.1 in
    omega (arith, below, size)

pub marked_none : (core : List ℕ) (at : ℕ → Type 0) → ClearsMarksAt core core at
marked_none core at = record { size = refl; each = λ a. inl refl }

-- marks at places of one kind, which are of another kind
pub marked_as : (core now : List ℕ) (one at : ℕ → Type 0) → ((a : ℕ) → one a → at a) → ClearsMarksAt core now one → ClearsMarksAt core now at
marked_as core now one at all m = record {
  size = m.size;
  each = λ a. elim (m.each a) [ inl e ↦ inl e | inr e ↦ inr (all a e.0, e.1) ];
}

passed_on : (core mid now : List ℕ) (at : ℕ → Type 0) (a : ℕ) → OnlyMarkCleared at core mid a → OnlyMarkCleared at mid now a → OnlyMarkCleared at core now a
passed_on core mid now at a one two =
    elim one [
      | inl e ↦ elim two [ inl f ↦ inl (f ∙ e) | inr f ↦ inr (f.0, f.1 ∙ ap without_used e) ]
      | inr e ↦
          elim two [
            | inl f ↦ inr (e.0, f ∙ e.1)
            | inr f ↦ inr (f.0, f.1 ∙ ap without_used e.1 ∙ unused_twice (get_or core a 0))
          ]
    ]

-- marks, and then more marks
pub marked_then : (core mid now : List ℕ) (at : ℕ → Type 0) → ClearsMarksAt core mid at → ClearsMarksAt mid now at → ClearsMarksAt core now at
marked_then core mid now at a b = record {
  size = b.size ∙ a.size;
  each = λ x. passed_on core mid now at x (a.each x) (b.each x);
}

-- the used mark of a page that the references do not pin
pub marked_free : (refs : List Reference) (holder : Option (ℕ × ℕ)) (core now : List ℕ) (spot : ℕ) → IsSome holder → is_pinned refs holder ≡ false
    → ClearsMarksAt core now (λ a. a ≡ spot) → ClearsMarksAt core now (λ a. IsSome holder × (is_pinned refs holder ≡ false) × (a ≡ spot))
marked_free refs holder core now spot some free m =
    marked_as core now (λ a. a ≡ spot) (λ a. IsSome holder × (is_pinned refs holder ≡ false) × (a ≡ spot)) (λ a at. (some, free, at)) m

pub passed_then : (refs : List Reference) (holders : List (Option (ℕ × ℕ))) (spots core mid now : List ℕ) (k : ℕ)
    → ClearsMarksAt core mid (IsHeldSpot refs holders spots)
    → ClearsMarksAt mid now (λ a. IsSome (get_or holders k None) × (is_pinned refs (get_or holders k None) ≡ false) × (a ≡ get_or spots k 0))
    → ClearsMarksAt core now (IsHeldSpot refs holders spots)
passed_then refs holders spots core mid now k one two =
    marked_then core mid now (IsHeldSpot refs holders spots) one
    (marked_as mid now (λ a. IsSome (get_or holders k None) × (is_pinned refs (get_or holders k None) ≡ false) × (a ≡ get_or spots k 0))
    (IsHeldSpot refs holders spots)
    (λ a h.
    let held = some_held (get_or holders k None) h.0 in
    record { k = k; held = held.0; holds = held.1; free = sym (ap (λ o. is_pinned refs o) held.1) ∙ h.1; is = sym h.2 })
    two)

-- Marks and writes in core: tables do not change except for marks, nor do words that are not
-- written.
use Rattle.std.proofs.Common.{◌≡◌, refl, sym, ◌∙◌, ap, subst, inl, inr, arith, length-set, eqb-true}
use Rattle.std.specs.Prelude.{ℕ, ◌/◌, ◌<◌, ◌≤◌, Bool, true, false, ◌==◌, if◌then◌else◌, List, [], ◌∷◌, length, slice_get, slice_index, slice_set, Option, Some, None, option_map, Result, Ok}
use Rattle.std.proofs.lemmas.Bool.{eqb-false, leb-true}
use Rattle.std.proofs.lemmas.List.{get_or-set_same, get_or-set_other}
use Rattle.std.proofs.lemmas.Option.{slice_get_within}
use Rattle.m36_isol.proofs.Spots.{each_append}
use Rattle.m36_desc.specs.Fields.{SdwFields, DbrFields}
use Rattle.m36_model.specs.Act.{RequestKind}
use Rattle.m36_model.specs.Store.{is_within_bound}
use Rattle.m36_model.specs.Place.{with_used, with_modified, marked_word, Mark, directory_marks, page_marks, is_write, marks, with_mark, with_marks, core_sdw, sdw_place_by, sdw_at, ptw_at, directory_at, page_at, has_descriptor_in_bounds}
use Rattle.m36_model.specs.Core.{unmarked}
use Rattle.m36_model.specs.Audit.{IsSdwWord, Sdws, Directory, Pages, AreApart}
use Rattle.m36_model.specs.StoreLaw.{Each}
use Rattle.m36_model.specs.CoreLaw.{IsPtwWord, IsPtwMarked, IsSameExceptMarks, IsMarkedFrom}
use Rattle.m36_model.specs.declared.outcome.Refusal.{Refusal}
use Rattle.m36_isol.specs.MarkBits.{MarksKeepBits}
use Rattle.m36_word.proofs.Lists.{set_other, set_same, get_set_past, index_of_get}
use Rattle.m36_isol.proofs.CoreTables.{Matches, same_sdw}

-- setting marks twice
used_used : (w : ℕ) → with_used (with_used w) ≡ with_used w
unfolding with_used
used_used w = omega arith

used_modified : (w : ℕ) → with_used (with_modified (with_used w)) ≡ with_modified (with_used w)
unfolding with_used with_modified
used_modified w = omega arith

modified_used : (w : ℕ) → with_modified (with_used (with_used w)) ≡ with_modified (with_used w)
modified_used w = ap with_modified (used_used w)

modified_modified : (w : ℕ) → with_modified (with_used (with_modified (with_used w))) ≡ with_modified (with_used w)
unfolding with_used with_modified
modified_modified w = omega arith

marked_again : (u v w : ℕ) → IsPtwMarked u v → IsPtwMarked v w → IsPtwMarked u w
marked_again u v w (inl e) (inl f) = inl (f ∙ ap with_used e ∙ used_used u)
marked_again u v w (inl e) (inr f) = inr (f ∙ ap (λ (x : ℕ). with_modified (with_used x)) e ∙ modified_used u)
marked_again u v w (inr e) (inl f) = inr (f ∙ ap with_used e ∙ used_modified u)
marked_again u v w (inr e) (inr f) = inr (f ∙ ap (λ (x : ℕ). with_modified (with_used x)) e ∙ modified_modified u)

-- `unmarked` removes marks
unmarked_used : (w : ℕ) → unmarked (with_used w) ≡ unmarked w
unfolding unmarked with_used
unmarked_used w = omega arith

unmarked_modified : (w : ℕ) → unmarked (with_modified (with_used w)) ≡ unmarked w
unfolding unmarked with_used with_modified
unmarked_modified w = omega arith

pub unmarked_word : MarksKeepBits
unmarked_word true w = let same = unmarked_modified w in omega arith
unmarked_word false w = let same = unmarked_used w in omega arith

is_marked : (modified : Bool) (w : ℕ) → IsPtwMarked w (marked_word modified w)
is_marked true w = inr refl
is_marked false w = inl refl

module _ (core : List ℕ) (dbr : DbrFields) where
  -- one word is unchanged or marked, twice
  but_marked_again : (a u v w : ℕ) → IsSameExceptMarks core dbr a u v → IsSameExceptMarks core dbr a v w → IsSameExceptMarks core dbr a u w
  but_marked_again a u v w (inl e) (inl f) = inl (f ∙ e)
  but_marked_again a u v w (inl e) (inr k) = subst (λ (x : ℕ). IsSameExceptMarks core dbr a x w) e (inr k)
  but_marked_again a u v w (inr h) (inl f) = subst (λ (x : ℕ). IsSameExceptMarks core dbr a u x) (sym f) (inr h)
  but_marked_again a u v w (inr h) (inr k) = inr (h.0, marked_again u v w h.1 k.1)

  pub marked_self : (now : List ℕ) → IsMarkedFrom core dbr now now
  marked_self now = record { size = refl; words = λ a. inl refl }

  pub marked_then : (first mid last : List ℕ) → IsMarkedFrom core dbr first mid → IsMarkedFrom core dbr mid last → IsMarkedFrom core dbr first last
  marked_then first mid last h k =
      record { size = k.size ∙ h.size; words = λ a. but_marked_again a _ _ _ (h.words a) (k.words a) }

  -- a write to a word that is no word of a descriptor in core, and to no PTW except by marks
  pub record IsHarmless (now : List ℕ) (a v : ℕ) : Type 0 where
    pub descriptor : (x : ℕ) → slice_get now a ≡ Some x → (seg : ℕ) → IsSdwWord core dbr seg a → ⊥
    pub ptw : (x : ℕ) → slice_get now a ≡ Some x → IsPtwWord core dbr a → unmarked v ≡ unmarked x

  set_here : (now : List ℕ) (a v x : ℕ) → Matches core dbr now → slice_get now a ≡ Some x → IsHarmless now a v → Matches core dbr (slice_set now a v)
  set_here now a v x m here h =
      record {
        size = length-set now a v ∙ m.size;
        descriptors = λ seg b k. descriptor seg b k (b == a) refl;
        ptws = λ b k. ptw b k (b == a) refl;
      }
    where
      descriptor : (seg b : ℕ) → IsSdwWord core dbr seg b → (t : Bool) → (b == a) ≡ t → slice_get (slice_set now a v) b ≡ slice_get core b
      descriptor seg b k true e =
          absurd (h.descriptor x here seg (subst (λ (c : ℕ). IsSdwWord core dbr seg c) (eqb-true b a e) k))
      descriptor seg b k false e = set_other now a b v (eqb-false b a e) ∙ m.descriptors seg b k

      ptw : (b : ℕ) → IsPtwWord core dbr b → (t : Bool) → (b == a) ≡ t → option_map unmarked (slice_get (slice_set now a v) b) ≡ option_map unmarked (slice_get core b)
      ptw b k true e =
          let same = eqb-true b a e in
          let new = h.ptw x here (subst (λ (c : ℕ). IsPtwWord core dbr c) same k) in
          subst (λ (c : ℕ). option_map unmarked (slice_get (slice_set now a v) c) ≡ option_map unmarked (slice_get core c)) (sym same) (ap (option_map unmarked) (set_same now a v x here) ∙ ap Some new ∙ sym (ap (option_map unmarked) here) ∙ m.ptws a (subst (λ (c : ℕ). IsPtwWord core dbr c) same k))
      ptw b k false e = ap (option_map unmarked) (set_other now a b v (eqb-false b a e)) ∙ m.ptws b k

  set_by : (now : List ℕ) (a v : ℕ) (found : Option ℕ) → slice_get now a ≡ found → Matches core dbr now → IsHarmless now a v → Matches core dbr (slice_set now a v)
  set_by now a v None e m h = subst (λ (l : List ℕ). Matches core dbr l) (sym (get_set_past now a v e)) m
  set_by now a v (Some x) e m h = set_here now a v x m e h

  pub set_matches : (now : List ℕ) (a v : ℕ) → Matches core dbr now → IsHarmless now a v → Matches core dbr (slice_set now a v)
  set_matches now a v m h = set_by now a v (slice_get now a) refl m h

  -- if the audit conditions hold, a mark on a PTW changes no table except for marks
  module _ (apart : AreApart core dbr) where
    pub ptw_apart : (a seg : ℕ) → a < length core → IsPtwWord core dbr a → IsSdwWord core dbr seg a → ⊥
    ptw_apart a seg inside (inl k) h =
        apart.tables a (record { inside = inside; table = Sdws; other = Directory; of = (seg, h); of_other = k; differ = λ e. cc })
    ptw_apart a seg inside (inr k) h =
        apart.tables a (record { inside = inside; table = Sdws; other = Pages k.0; of = (seg, h); of_other = (k.1, k.2); differ = λ e. cc })

    mark_harmless : (now : List ℕ) (m : Mark) → Matches core dbr now → IsPtwWord core dbr m.address → IsHarmless now m.address (marked_word m.modified (slice_index now m.address))
    mark_harmless now m k ptw =
        record {
          descriptor = λ x here seg h. ptw_apart m.address seg (subst (λ (n : ℕ). m.address < n) k.size (slice_get_within now m.address x here)) ptw h;
          ptw = λ x here h. unmarked_word m.modified _ ∙ ap unmarked (index_of_get now m.address x here);
        }

    mark_matches : (now : List ℕ) (m : Mark) → Matches core dbr now → IsPtwWord core dbr m.address → Matches core dbr (with_mark now m)
    mark_matches now m k ptw = set_matches now m.address _ k (mark_harmless now m k ptw)

    pub marks_match : (now : List ℕ) (list : List Mark) → Matches core dbr now → Each (λ (m : Mark). IsPtwWord core dbr m.address) list → Matches core dbr (with_marks now list)
    unfolding with_marks
    marks_match now [] k h = k
    marks_match now (m ∷ list) k h = marks_match (with_mark now m) list (mark_matches now m k h.0) h.1

  -- a mark leaves each word unchanged or marked
  mark_word : (now : List ℕ) (m : Mark) → IsPtwWord core dbr m.address → (a : ℕ) (t : Bool) → (a == m.address) ≡ t → IsSameExceptMarks core dbr a (slice_index now a) (slice_index (with_mark now m) a)
  mark_word now m ptw a false e = inl (get_or-set_other now m.address a _ 0 (eqb-false a m.address e))
  mark_word now m ptw a true e =
      let same = eqb-true a m.address e in
      subst (λ (b : ℕ). IsSameExceptMarks core dbr b (slice_index now b) (slice_index (with_mark now m) b)) (sym same) (mark_here (slice_get now m.address) refl)
    where
      mark_here : (found : Option ℕ) → slice_get now m.address ≡ found → IsSameExceptMarks core dbr m.address (slice_index now m.address) (slice_index (with_mark now m) m.address)
      mark_here None k = inl (ap (λ (l : List ℕ). slice_index l m.address) (get_set_past now m.address _ k))
      mark_here (Some x) k =
          inr (ptw, subst (λ (v : ℕ). IsPtwMarked (slice_index now m.address) v) (sym (get_or-set_same now m.address _ 0 (slice_get_within now m.address x k))) (is_marked m.modified (slice_index now m.address)))

  mark_near : (now : List ℕ) (m : Mark) → IsPtwWord core dbr m.address → IsMarkedFrom core dbr now (with_mark now m)
  mark_near now m ptw =
      record { size = length-set now m.address _; words = λ a. mark_word now m ptw a (a == m.address) refl }

  pub marks_near : (now : List ℕ) (list : List Mark) → Each (λ (m : Mark). IsPtwWord core dbr m.address) list → IsMarkedFrom core dbr now (with_marks now list)
  unfolding with_marks
  marks_near now [] h = marked_self now
  marks_near now (m ∷ list) h =
      marked_then now (with_mark now m) _ (mark_near now m h.0) (marks_near (with_mark now m) list h.1)

  -- the marks of a reference to a word with a place are on PTWs
  bounds_by : (seg : ℕ) (d : SdwFields) (b : Bool) → has_descriptor_in_bounds dbr seg ≡ b → sdw_at core (sdw_place_by b dbr.unpaged dbr seg (ptw_at core (directory_at dbr seg))) ≡ Ok d → has_descriptor_in_bounds dbr seg ≡ true
  bounds_by seg d true e h = e
  bounds_by seg d false e h = cc

  pub live_bounds : (seg : ℕ) (d : SdwFields) → core_sdw core dbr seg ≡ Ok d → has_descriptor_in_bounds dbr seg ≡ true
  unfolding core_sdw
  live_bounds seg d h = bounds_by seg d (has_descriptor_in_bounds dbr seg) refl h

  directory_ptws : (seg : ℕ) → has_descriptor_in_bounds dbr seg ≡ true → (u : Bool) → dbr.unpaged ≡ u → Each (λ (m : Mark). IsPtwWord core dbr m.address) (if u then [] else record { address = directory_at dbr seg; modified = false } ∷ [])
  directory_ptws seg bounds true e = tt
  directory_ptws seg bounds false e = (inl (seg, record { bounds = bounds; paged = e; found = refl }), tt)

  page_ptws : (write : Bool) (seg w : ℕ) (d : SdwFields) → core_sdw core dbr seg ≡ Ok d → is_within_bound d w ≡ true → (u : Bool) → d.unpaged ≡ u → Each (λ (m : Mark). IsPtwWord core dbr m.address) (if u then [] else record { address = page_at d (w / 1024); modified = write } ∷ [])
  page_ptws write seg w d live inside true e = tt
  page_ptws write seg w d live inside false e =
      let k : w / 16 ≤ d.bound = leb-true (w / 16) d.bound inside in
      (inr (seg, w / 1024, record { sdw = d; live = live; paged = e; begins = omega arith; found = refl }), tt)

  page_ptws_at : (write : Bool) (seg w : ℕ) (d : SdwFields) → core_sdw core dbr seg ≡ Ok d → is_within_bound d w ≡ true → (v : Result SdwFields Refusal) → Ok d ≡ v → Each (λ (m : Mark). IsPtwWord core dbr m.address) (page_marks write w v)
  page_ptws_at write seg w d live inside v e =
      subst (λ (x : Result SdwFields Refusal). Each (λ (m : Mark). IsPtwWord core dbr m.address) (page_marks write w x)) e (page_ptws write seg w d live inside d.unpaged refl)

  pub marks_are_ptws : (now : List ℕ) → Matches core dbr now → (kind : RequestKind) (seg w : ℕ) (d : SdwFields) → core_sdw core dbr seg ≡ Ok d → is_within_bound d w ≡ true → Each (λ (m : Mark). IsPtwWord core dbr m.address) (marks now dbr kind seg w)
  unfolding marks
  marks_are_ptws now k kind seg w d live inside =
      each_append (λ (m : Mark). IsPtwWord core dbr m.address) (directory_marks dbr seg) (page_marks (is_write kind) w (core_sdw now dbr seg)) (directory_ptws seg (live_bounds seg d live) dbr.unpaged refl) (page_ptws_at (is_write kind) seg w d live inside (core_sdw now dbr seg) (sym (same_sdw core dbr now k seg ∙ live)))

-- Within a block of 16 words, core addresses are consecutive: so a pair or a block is a run from
-- its first word.
use Rattle.std.proofs.Common.{ℕ, zero, suc, ◌+◌, ◌-◌, ◌/◌, ◌%◌, ◌^◌, ◌≤◌, ◌<◌, ◌≡◌, Bool, true, false, List, length, Option, Some, None, Result, Ok, Err, nat_lt, refl, ap, ◌∙◌, sub-one, add-zero, lt-ltb, le-ltb, arith}
use Rattle.m36_desc.specs.Fields.{SdwFields, PtwFields, DbrFields}
use Rattle.m36_model.specs.Core.{core_store}
use Rattle.m36_model.specs.Place.{wrapped_address, frame_at, ptw_at, page_at, address_in_frame_by, word_place_by, core_spot, spot_in_core_by, store_fault}
use Rattle.m36_model.specs.Store.{Core_word, is_within_bound, spots_from, spots_with, spots_of, violation}
use Rattle.m36_model.specs.declared.outcome.Refusal.{Refusal}
use Rattle.m36_walk.specs.Runs.{run_from, spots_in_core, IsInCore}

-- the core address of a word of the segment
abbrev pub place_in : List ℕ → SdwFields → ℕ → Result ℕ Refusal
place_in core d w = word_place_by d.unpaged d w (ptw_at core (page_at d (w / 1024)))

next_wrapped : (x y a : ℕ) → x % 2 ^ 24 ≡ a → y ≡ x + 1 → y % 2 ^ 24 ≡ (a + 1) % 2 ^ 24
next_wrapped x y a e f = omega arith

next_in_frame : (b : Bool) (p : PtwFields) (k j a : ℕ) → j ≡ k + 1 → address_in_frame_by b p k ≡ Ok a → address_in_frame_by b p j ≡ Ok (wrapped_address (a + 1))
next_in_frame true p k j a e h =
    let g : (frame_at p + k) % 2 ^ 24 ≡ a = cc in
    ap Ok (next_wrapped (frame_at p + k) (frame_at p + j) a g (omega arith))
next_in_frame false p k j a e h = cc

next_by : (b : Bool) (d : SdwFields) (w a : ℕ) (p : Option PtwFields) → (w + 1) % 1024 ≡ w % 1024 + 1 → word_place_by b d w p ≡ Ok a → word_place_by b d (w + 1) p ≡ Ok (wrapped_address (a + 1))
next_by true d w a p e h =
    let g : (d.addr + w) % 2 ^ 24 ≡ a = cc in
    ap Ok (next_wrapped (d.addr + w) (d.addr + (w + 1)) a g (omega arith))
next_by false d w a None e h = cc
next_by false d w a (Some p) e h = next_in_frame p.f p (w % 1024) ((w + 1) % 1024) a e h

-- the next word of a block is at the next address
next_place : (core : List ℕ) (d : SdwFields) (w a : ℕ) → w % 16 + 2 ≤ 16 → place_in core d w ≡ Ok a → place_in core d (w + 1) ≡ Ok (wrapped_address (a + 1))
next_place core d w a h e =
    let page : (w + 1) / 1024 ≡ w / 1024 = omega arith in
    let offset : (w + 1) % 1024 ≡ w % 1024 + 1 = omega arith in
    rw page (next_by d.unpaged d w a (ptw_at core (page_at d (w / 1024))) offset e)

next_within : (d : SdwFields) (w : ℕ) → w % 16 + 2 ≤ 16 → is_within_bound d w ≡ true → is_within_bound d (w + 1) ≡ true
next_within d w h e = let block : (w + 1) / 16 ≡ w / 16 = omega arith in rw block e

-- the spots of the words of a block, from one of them on
spots_run : (core : List ℕ) (dbr : DbrFields) (d : SdwFields) (seg n w a : ℕ) → w % 16 + suc n ≤ 16 → is_within_bound d w ≡ true → place_in core d w ≡ Ok a
    → spots_of core_store core dbr d seg w (suc n) ≡ spots_in_core (length core) w a (suc n)
unfolding spots_of spots_in_core core_spot
spots_run core dbr d seg zero w a h e f = rw (e, f) refl
spots_run core dbr d seg (suc n) w a h e f =
    let rest = spots_run core dbr d seg n (w + 1) (wrapped_address (a + 1)) (omega arith) (next_within d w (omega arith) e) (next_place core d w a (omega arith) f) in
    rw (e, f) (ap (spots_from true w (spot_in_core_by (nat_lt a (length core)) a)) rest)

-- The words of a block are checked as a run from the address of the first.
pub places_run : (core : List ℕ) (dbr : DbrFields) (d : SdwFields) (seg word count a : ℕ) → 1 ≤ count → word % 16 + count ≤ 16 → is_within_bound d word ≡ true → place_in core d word ≡ Ok a
    → spots_of core_store core dbr d seg word count ≡ spots_in_core (length core) word a count
places_run core dbr d seg word zero a h k e f = absurd (omega arith)
places_run core dbr d seg word (suc n) a h k e f = spots_run core dbr d seg n word a k e f

-- The first word is past the bound.
pub places_beyond : (core : List ℕ) (dbr : DbrFields) (d : SdwFields) (seg word count : ℕ) → 1 ≤ count → is_within_bound d word ≡ false → spots_of core_store core dbr d seg word count ≡ Err (word + 0, violation 15)
unfolding spots_of
places_beyond core dbr d seg word zero h e = absurd (omega arith)
places_beyond core dbr d seg word (suc n) h e = rw (e, add-zero) refl

-- The first word has no place.
pub places_refused : (core : List ℕ) (dbr : DbrFields) (d : SdwFields) (seg word count : ℕ) (why : Refusal) → 1 ≤ count → is_within_bound d word ≡ true → place_in core d word ≡ Err why → spots_of core_store core dbr d seg word count ≡ Err (word + 0, why)
unfolding spots_of core_spot
places_refused core dbr d seg word zero why h e f = absurd (omega arith)
places_refused core dbr d seg word (suc n) why h e f = rw (e, f, add-zero) refl

-- A run, after its first word.
further : (size word a n : ℕ) → a < size → spots_in_core size word a (suc n) ≡ spots_with (spots_in_core size (word + 1) (wrapped_address (a + 1)) n) (Core_word a)
unfolding spots_in_core
further size word a n h = let inside : nat_lt a size ≡ true = lt-ltb a size h in rw inside refl

pub refused_further : (size word a left : ℕ) (e : ℕ × Refusal) → 0 < left → a < size → spots_in_core size (word + 1) (wrapped_address (a + 1)) (left - 1) ≡ Err e → spots_in_core size word a left ≡ Err e
refused_further size word a zero e k h f = absurd (omega arith)
refused_further size word a (suc n) e k h f =
    let g : spots_in_core size (word + 1) (wrapped_address (a + 1)) n ≡ Err e = rw sub-one at f in
    further size word a n h ∙ ap (λ r. spots_with r (Core_word a)) g

pub whole_further : (size word a left : ℕ) → 0 < left → a < size → spots_in_core size (word + 1) (wrapped_address (a + 1)) (left - 1) ≡ Ok (run_from (wrapped_address (a + 1)) (left - 1)) → spots_in_core size word a left ≡ Ok (run_from a left)
unfolding run_from
whole_further size word a zero k h f = absurd (omega arith)
whole_further size word a (suc n) k h f =
    let g : spots_in_core size (word + 1) (wrapped_address (a + 1)) n ≡ Ok (run_from (wrapped_address (a + 1)) n) = rw sub-one at f in
    further size word a n h ∙ ap (λ r. spots_with r (Core_word a)) g

pub lies_further : (size a left : ℕ) → 0 < left → a < size → IsInCore size (wrapped_address (a + 1)) (left - 1) → IsInCore size a left
unfolding IsInCore
lies_further size a zero k h f = absurd (omega arith)
lies_further size a (suc n) k h f = (h, rw sub-one at f)

-- The next word of a run is past the end of core.
pub ends_outside : (size word a left : ℕ) → 0 < left → size ≤ a → spots_in_core size word a left ≡ Err (word, store_fault)
unfolding spots_in_core
ends_outside size word a zero k h = absurd (omega arith)
ends_outside size word a (suc n) k h = let outside : nat_lt a size ≡ false = le-ltb a size h in rw outside refl

-- A run of no words.
pub whole_at_last : (size word a n : ℕ) → n ≤ 0 → spots_in_core size word a n ≡ Ok (run_from a n)
unfolding spots_in_core run_from
whole_at_last size word a zero h = refl
whole_at_last size word a (suc n) h = absurd (omega arith)

pub lies_at_last : (size a n : ℕ) → n ≤ 0 → IsInCore size a n
unfolding IsInCore
lies_at_last size a zero h = tt
lies_at_last size a (suc n) h = absurd (omega arith)

-- A run that ends before the end of core is in core.
one_further : (size a n : ℕ) → size ≤ 2 ^ 24 → a + suc (suc n) ≤ size → wrapped_address (a + 1) ≡ a + 1
one_further size a n h k = omega arith

pub examined_inside : (size word a n : ℕ) → size ≤ 2 ^ 24 → a + n ≤ size → spots_in_core size word a n ≡ Ok (run_from a n)
examined_inside size word a zero h k = whole_at_last size word a 0 (omega arith)
examined_inside size word a (suc zero) h k =
    whole_further size word a 1 (omega arith) (omega arith) (rw sub-one (whole_at_last size (word + 1) (wrapped_address (a + 1)) 0 (omega arith)))
examined_inside size word a (suc (suc n)) h k =
    whole_further size word a (suc (suc n)) (omega arith) (omega arith)
    (rw (one_further size a n h k, sub-one) (examined_inside size (word + 1) (a + 1) (suc n) h (omega arith)))

pub lies_inside : (size a n : ℕ) → size ≤ 2 ^ 24 → a + n ≤ size → IsInCore size a n
lies_inside size a zero h k = lies_at_last size a 0 (omega arith)
lies_inside size a (suc zero) h k = lies_further size a 1 (omega arith) (omega arith) (rw sub-one (lies_at_last size (wrapped_address (a + 1)) 0 (omega arith)))
lies_inside size a (suc (suc n)) h k =
    lies_further size a (suc (suc n)) (omega arith) (omega arith) (rw (one_further size a n h k, sub-one) (lies_inside size (a + 1) (suc n) h (omega arith)))

-- what the rest of a run says about the whole run
pub ruleset walks_on = (refused_further, whole_further, lies_further, ends_outside)

-- what the address of the first word says about a run
pub ruleset by_first = (places_run, places_beyond, places_refused)

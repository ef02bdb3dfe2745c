-- The conditions about words, from the counts and the marks.
use Rattle.std.proofs.Common.{◌≡◌, ◌≢◌, ℕ, zero, suc, ◌+◌, ◌-◌, ◌*◌, ◌/◌, ◌%◌, ◌^◌, ◌<◌, ◌≤◌, min, refl, sym, ◌∙◌, ap, subst, inl, inr, arith}
use Rattle.std.specs.Bool.{Decides}
use Rattle.std.specs.Prelude.{◌⊎◌, Bool, true, false, not, ◌==◌, ◌&&◌, nat_lt, nat_le, List, length, slice_index, Option, Some, None, Result, Ok, Err}
use Rattle.std.specs.Result.{result_ok}
use Rattle.std.proofs.lemmas.Bool.{ltb-true, lt-ltb, leb-true, le-leb, and_parts, and_from, eq-eqb, ne_eqb, cases_eq, cases_lt}
use Rattle.m36_desc.specs.Fields.{SdwFields, DbrFields}
use Rattle.m36_desc.specs.Access.{has_ordered_brackets}
use Rattle.m36_desc.specs.Widths.{IsSdw}
use Rattle.m36_model.specs.Place.{address_in_frame, ptw_at, page_at, has_descriptor_in_bounds, core_sdw}
use Rattle.m36_model.specs.Audit.{IsSegmentWord, IsWordOfTable, IsInTwoTables, IsTableAndSegment, IsInTwoSegments, Finds}
use Rattle.m36_model.specs.declared.outcome.Refusal.{Refusal}
use Rattle.m36_audit.specs.TableMarks.{AreMarked}
use Rattle.m36_audit.specs.declared.run.Run.{Run}
use Rattle.m36_audit.specs.Runs.{word_count, unpaged_run, frame_run, page_run_by, run_by, run_if_ordered, run_of, run, covers, coverage, EndAfterBegin, AreCounted, IsOpenCount}
use Rattle.m36_audit.proofs.Bounds.{live_fits, live_in_bounds}
use Rattle.m36_audit.proofs.Counting.{PassTwice, one, two, at_least_one, at_least_two}
use Rattle.m36_audit.proofs.Covering.{open_on}
use Rattle.m36_audit.proofs.RunWords.{Covers}
use Rattle.m36_audit.proofs.SegmentWords.{number_of, WordOf, word_covered, word_inside, word_once, word_number, word_live, covered_word}

-- the test of whether a run covers a word
pub covers_is : (o : Option Run) (a : ℕ) → covers a o ≡ true → Covers o a
covers_is None a h = cc
covers_is (Some r) a h =
    let k = and_parts (nat_le r.first a) (nat_lt a r.end) h in
    record { run = r; is = refl; first = leb-true r.first a k.0; end = ltb-true a r.end k.1 }

pub is_covers : (o : Option Run) (a : ℕ) → Covers o a → covers a o ≡ true
is_covers None a k = let is = k.is in cc
is_covers (Some r) a k =
    let is = k.is in
    let same : k.run ≡ r = cc in
    let first : r.first ≤ a = subst (λ (x : Run). x.first ≤ a) same k.first in
    let end : a < r.end = subst (λ (x : Run). a < x.end) same k.end in
    and_from (nat_le r.first a) (nat_lt a r.end) (le-leb r.first a first) (lt-ltb a r.end end)

-- segment numbers have 15 bits, so the numbers of runs have 23
pub few_segments : (dbr : DbrFields) (seg : ℕ) → has_descriptor_in_bounds dbr seg ≡ true → seg < 2 ^ 15
few_segments dbr seg h = ltb-true seg (2 ^ 15) (and_parts (nat_lt (2 * seg) (16 * (dbr.bnd + 1))) (nat_lt seg (2 ^ 15)) h).1

pub word_below : (core : List ℕ) (dbr : DbrFields) (seg w a : ℕ) → IsSegmentWord core dbr seg w a → number_of core dbr seg w < 2 ^ 23
word_below core dbr seg w a h =
    let live = word_live core dbr seg w a h in
    let few = few_segments dbr seg (live_in_bounds core dbr seg live.0 live.1) in
    let table_number = word_number core dbr seg w a h in
    omega arith

pub word_passes : (core : List ℕ) (dbr : DbrFields) (seg w a : ℕ) → IsSegmentWord core dbr seg w a → covers a (run core dbr (number_of core dbr seg w)) ≡ true
word_passes core dbr seg w a h = is_covers (run core dbr (number_of core dbr seg w)) a (word_covered core dbr seg w a h)

-- a segment word is covered by a run
pub word_counts : (core : List ℕ) (dbr : DbrFields) (seg w a : ℕ) → IsSegmentWord core dbr seg w a → 1 ≤ coverage core dbr a
word_counts core dbr seg w a h =
    at_least_one (λ i. covers a (run core dbr i)) (2 ^ 23) (number_of core dbr seg w) (word_below core dbr seg w a h) (word_passes core dbr seg w a h)

-- Fourth condition: a core word is two segment words exactly if two runs cover it.
pub two_counted : (core : List ℕ) (dbr : DbrFields) (a : ℕ) → IsInTwoSegments core dbr a → 2 ≤ coverage core dbr a
two_counted core dbr a k =
    at_least_two (λ i. covers a (run core dbr i)) (2 ^ 23) (number_of core dbr k.seg k.w) (number_of core dbr k.other_seg k.other_w) (word_below core dbr k.seg k.w a k.word) (word_below core dbr k.other_seg k.other_w a k.other_word) (at k.differ) (word_passes core dbr k.seg k.w a k.word) (word_passes core dbr k.other_seg k.other_w a k.other_word)
  where
    same_seg : number_of core dbr k.seg k.w ≡ number_of core dbr k.other_seg k.other_w → k.seg ≡ k.other_seg
    same_seg e =
        let one_number = word_number core dbr k.seg k.w a k.word in
        let other_number = word_number core dbr k.other_seg k.other_w a k.other_word in
        omega arith

    same_w : k.seg ≡ k.other_seg → number_of core dbr k.seg k.w ≡ number_of core dbr k.other_seg k.other_w → k.w ≡ k.other_w
    same_w s e =
        word_once core dbr k.seg k.w k.other_w a k.word (subst (λ (n : ℕ). IsSegmentWord core dbr n k.other_w a) (sym s) k.other_word) (e ∙ ap (λ (n : ℕ). number_of core dbr n k.other_w) (sym s))

    at : (k.seg ≢ k.other_seg) ⊎ (k.w ≢ k.other_w) → number_of core dbr k.seg k.w ≢ number_of core dbr k.other_seg k.other_w
    at (inl far) = λ e. far (same_seg e)
    at (inr far) = λ e. far (same_w (same_seg e) e)

pub counted_two : (core : List ℕ) (dbr : DbrFields) (a : ℕ) → a < length core → 2 ≤ coverage core dbr a → IsInTwoSegments core dbr a
counted_two core dbr a inside h =
    let k = two (λ i. covers a (run core dbr i)) (2 ^ 23) h in
    let x = covered_word core dbr k.at a inside (covers_is (run core dbr k.at) a k.passes) in
    let y = covered_word core dbr k.other a inside (covers_is (run core dbr k.other) a k.other_passes) in
    record { seg = x.seg; w = x.w; word = x.word; other_seg = y.seg; other_w = y.w; other_word = y.word; differ = at k x y (cases_eq x.seg y.seg) }
  where
    at : (k : PassTwice (λ i. covers a (run core dbr i)) (2 ^ 23)) (x : WordOf core dbr k.at a) (y : WordOf core dbr k.other a) → (x.seg ≡ y.seg) ⊎ (x.seg ≡ y.seg → ⊥) → (x.seg ≢ y.seg) ⊎ (x.w ≢ y.w)
    at k x y (inr far) = inl far
    at k x y (inl same) = inr (λ e. k.differ (sym x.numbered ∙ ap (λ (n : ℕ). number_of core dbr n x.w) same ∙ ap (number_of core dbr y.seg) e ∙ y.numbered))

-- Third condition: a core word is a segment word and a table word exactly if a run covers it and it
-- has a mark.
pub table_counted : (core : List ℕ) (dbr : DbrFields) (tables : List ℕ) (least : Option ℕ) (a : ℕ) → AreMarked (IsWordOfTable core dbr) (length core) tables least → IsTableAndSegment core dbr a → slice_index tables a ≢ 0
table_counted core dbr tables least a m k =
    λ e. m.none a (word_inside core dbr k.seg k.w a k.word) e k.table k.of

pub counted_table : (core : List ℕ) (dbr : DbrFields) (tables : List ℕ) (least : Option ℕ) (a : ℕ) → AreMarked (IsWordOfTable core dbr) (length core) tables least → a < length core → 1 ≤ coverage core dbr a → slice_index tables a ≢ 0 → IsTableAndSegment core dbr a
counted_table core dbr tables least a m inside h some =
    let k = one (λ i. covers a (run core dbr i)) (2 ^ 23) h in
    let x = covered_word core dbr k.at a inside (covers_is (run core dbr k.at) a k.passes) in
    let mark = m.some a some in
    record { table = mark.table; of = mark.of; seg = x.seg; w = x.w; word = x.word }

-- Second condition: the least word that was marked for two tables.
pub two_tables : (core : List ℕ) (dbr : DbrFields) (tables : List ℕ) (least : Option ℕ) → AreMarked (IsWordOfTable core dbr) (length core) tables least → Finds (IsInTwoTables core dbr) least
two_tables core dbr tables least m = m.least_two

-- no run ends before it begins
whole_order : (d : SdwFields) (t : ℕ) (r : Run) → IsSdw d → unpaged_run d t ≡ Some r → r.first ≤ r.end
whole_order d zero r fits h =
    let addr = fits.addr in
    let same : record { first = d.addr; end = min (d.addr + word_count d) (2 ^ 24) } ≡ r = cc in
    let goal : d.addr ≤ min (d.addr + word_count d) (2 ^ 24) = omega arith in
    subst (λ (x : Run). x.first ≤ x.end) same goal
whole_order d (suc zero) r fits h =
    let same : record { first = 0; end = (d.addr + word_count d) - 2 ^ 24 } ≡ r = cc in
    let goal : 0 ≤ (d.addr + word_count d) - 2 ^ 24 = omega arith in
    subst (λ (x : Run). x.first ≤ x.end) same goal
whole_order d (suc (suc t)) r fits h = cc

frame_order : (o : Option ℕ) (count : ℕ) (r : Run) → frame_run o count ≡ Some r → r.first ≤ r.end
frame_order None count r h = cc
frame_order (Some frame) count r h =
    let same : record { first = frame; end = frame + min 1024 count } ≡ r = cc in
    let goal : frame ≤ frame + min 1024 count = omega arith in
    subst (λ (x : Run). x.first ≤ x.end) same goal

page_order : (b : Bool) (core : List ℕ) (d : SdwFields) (page : ℕ) (r : Run) → page_run_by b core d page ≡ Some r → r.first ≤ r.end
page_order false core d page r h = cc
page_order true core d page r h = frame_order (result_ok (address_in_frame (ptw_at core (page_at d page)) 0)) (word_count d - 1024 * page) r h

piece_order : (u : Bool) (core : List ℕ) (d : SdwFields) (piece : ℕ) (r : Run) → IsSdw d → run_by u core d piece ≡ Some r → r.first ≤ r.end
piece_order true core d piece r fits h = whole_order d piece r fits h
piece_order false core d piece r fits h = page_order (nat_le piece (d.bound / 64)) core d piece r h

ordered_order : (b : Bool) (core : List ℕ) (d : SdwFields) (piece : ℕ) (r : Run) → IsSdw d → run_if_ordered b core d piece ≡ Some r → r.first ≤ r.end
ordered_order false core d piece r fits h = cc
ordered_order true core d piece r fits h = piece_order d.unpaged core d piece r fits h

run_order : (core : List ℕ) (dbr : DbrFields) (seg : ℕ) (v : Result SdwFields Refusal) (piece : ℕ) (r : Run) → core_sdw core dbr seg ≡ v → run_of core v piece ≡ Some r → r.first ≤ r.end
run_order core dbr seg (Err e) piece r live h = cc
run_order core dbr seg (Ok d) piece r live h = ordered_order (has_ordered_brackets d) core d piece r (live_fits core dbr seg d live) h

pub runs_in_order : (core : List ℕ) (dbr : DbrFields) → EndAfterBegin (run core dbr)
unfolding run
runs_in_order core dbr = record { each = λ i r h. run_order core dbr (i / 256) (core_sdw core dbr (i / 256)) (i % 256) r refl h }

-- the test of the third condition
pub on_table_decides : (core : List ℕ) (dbr : DbrFields) (tables : List ℕ) (least : Option ℕ) (a n mark : ℕ) → AreMarked (IsWordOfTable core dbr) (length core) tables least → a < length core → n ≡ coverage core dbr a → mark ≡ slice_index tables a → Decides (nat_lt 0 n && not (mark == 0)) (IsTableAndSegment core dbr a)
on_table_decides core dbr tables least a n mark m inside e f = (
  λ h.
      let k = and_parts (nat_lt 0 n) (not (mark == 0)) h in
      let some : 0 < n = ltb-true 0 n k.0 in
      let covered : 1 ≤ coverage core dbr a = omega arith in
      counted_table core dbr tables least a m inside covered (λ g. marked mark (f ∙ g) k.1),
  λ k.
      let counts = word_counts core dbr k.seg k.w a k.word in
      let some : 0 < n = omega arith in
      let taken = table_counted core dbr tables least a m k in
      and_from (nat_lt 0 n) (not (mark == 0)) (lt-ltb 0 n some) (ap not (ne_eqb mark 0 (λ g. taken (sym f ∙ g)))),
)
  where
    marked : (x : ℕ) → x ≡ 0 → not (x == 0) ≡ true → ⊥
    marked x g h = let k = ap not (eq-eqb x 0 g) in cc

-- the test of the fourth condition
pub on_segment_decides : (core : List ℕ) (dbr : DbrFields) (a n : ℕ) → a < length core → n ≡ coverage core dbr a → Decides (nat_lt 1 n) (IsInTwoSegments core dbr a)
on_segment_decides core dbr a n inside e = (
  λ h.
      let more : 1 < n = ltb-true 1 n h in
      counted_two core dbr a inside (omega arith),
  λ k.
      let counts = two_counted core dbr a k in
      lt-ltb 1 n (omega arith),
)

-- where no word below breaks the third condition, and no word from there on has a mark, none breaks it
pub none_marked : (core : List ℕ) (dbr : DbrFields) (tables : List ℕ) (least : Option ℕ) (n m : ℕ) → AreMarked (IsWordOfTable core dbr) (length core) tables least → ((a : ℕ) → n ≤ a → slice_index tables a ≡ 0) → n ≤ m
    → ((a : ℕ) → a < m → IsTableAndSegment core dbr a → ⊥) → Finds (IsTableAndSegment core dbr) None
none_marked core dbr tables least n m marked unmarked le below = λ a k. at a k (cases_lt a m)
  where
    at : (a : ℕ) → IsTableAndSegment core dbr a → (a < m) ⊎ (m ≤ a) → ⊥
    at a k (inl lt) = below a lt k
    at a k (inr far) = table_counted core dbr tables least a marked k (unmarked a (omega arith))

-- where a word does not break the fourth condition, at most one run is open there
pub few_open : (core : List ℕ) (dbr : DbrFields) (a n : ℕ) → a < length core → n ≡ coverage core dbr a → (IsInTwoSegments core dbr a → ⊥) → n ≤ 1
few_open core dbr a n inside e h = at (cases_lt 1 n)
  where
    at : (1 < n) ⊎ (n ≤ 1) → n ≤ 1
    at (inl more) = absurd (h (counted_two core dbr a inside (omega arith)))
    at (inr few) = few

-- where no word below breaks the fourth condition, and from there on no run begins, none breaks it
pub none_begun : (core : List ℕ) (dbr : DbrFields) (starts stops : List ℕ) (n m open_runs : ℕ) → AreCounted (run core dbr) (2 ^ 23) (length core) starts stops → IsOpenCount (run core dbr) (2 ^ 23) m open_runs → open_runs ≤ 1
    → ((a : ℕ) → n ≤ a → slice_index starts a ≡ 0) → n ≤ m → ((a : ℕ) → a < m → IsInTwoSegments core dbr a → ⊥) → Finds (IsInTwoSegments core dbr) None
none_begun core dbr starts stops n m open_runs counted opened few none le below = λ a k. at a k (cases_lt a m)
  where
    at : (a : ℕ) → IsInTwoSegments core dbr a → (a < m) ⊎ (m ≤ a) → ⊥
    at a k (inl lt) = below a lt k
    at a k (inr far) =
        let two = two_counted core dbr a k in
        let one = open_on (run core dbr) (2 ^ 23) (length core) starts stops counted (runs_in_order core dbr) m open_runs opened (λ q past. none q (omega arith)) a far (word_inside core dbr k.seg k.w a k.word) in
        omega arith

-- where no word of core breaks a condition that speaks of words in core, none does
pub none_inside : (Breaks : ℕ → Type 0) (size n m : ℕ) → n ≡ size → n ≤ m → ((a : ℕ) → Breaks a → a < size) → ((a : ℕ) → a < m → Breaks a → ⊥) → Finds Breaks None
none_inside Breaks size n m e le inside below = λ a k. let lt = inside a k in below a (omega arith) k

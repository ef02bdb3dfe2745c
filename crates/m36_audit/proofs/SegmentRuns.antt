-- Counting the runs of one more segment.
use Rattle.std.proofs.Common.{◌≡◌, ℕ, zero, suc, ◌+◌, ◌-◌, ◌*◌, ◌/◌, ◌%◌, ◌^◌, ◌<◌, ◌≤◌, refl, sym, ◌∙◌, ap, subst, inl, inr, arith}
use Rattle.std.specs.Prelude.{◌⊎◌, Bool, true, false, nat_lt, List, length, replicate, slice_index, Option, Some, None, Result, Ok, Err}
use Rattle.std.proofs.lemmas.Bool.{ltb-true, lt-leb, cases_lt}
use Rattle.std.proofs.lemmas.List.{get_or_past, length-replicate, get_or-replicate}
use Rattle.m36_desc.specs.Fields.{SdwFields, DbrFields}
use Rattle.m36_desc.specs.Access.{has_ordered_brackets}
use Rattle.m36_model.specs.Place.{has_descriptor_in_bounds, core_sdw}
use Rattle.m36_model.specs.declared.outcome.Refusal.{Refusal}
use Rattle.m36_audit.specs.declared.run.Run.{Run}
use Rattle.m36_audit.specs.Runs.{unpaged_run, page_run_by, page_run, run_by, run_if_ordered, run_of, run, with_one_more_at, begins_at, ends_at, AreCounted}
use Rattle.m36_audit.proofs.Bounds.{live_fits, live_in_bounds}
use Rattle.m36_audit.proofs.Counting.{count_zero}
use Rattle.m36_audit.proofs.Covering.{counted_more, counted_on, starts_most, stops_most}
use Rattle.m36_audit.proofs.SegmentWords.{run_at, run_live}

-- there is room for one more run
room : (counts : List ℕ) (size n a : ℕ) → length counts ≡ size → ((x : ℕ) → x < size → slice_index counts x ≤ n) → n ≤ 2 ^ 28 → slice_index counts a < 2 ^ 32 - 1
room counts size n a len most few = at (cases_lt a size)
  where
    at : (a < size) ⊎ (size ≤ a) → slice_index counts a < 2 ^ 32 - 1
    at (inl inside) = let k = most a inside in omega arith
    at (inr past) =
        let far : length counts ≤ a = omega arith in
        let k : slice_index counts a ≡ 0 = get_or_past counts a 0 far in
        omega arith

pub starts_room : (runs : ℕ → Option Run) (n size : ℕ) (starts stops : List ℕ) (a : ℕ) → n ≤ 2 ^ 28 → AreCounted runs n size starts stops → slice_index starts a < 2 ^ 32 - 1
starts_room runs n size starts stops a few c = room starts size n a c.starts_len (starts_most runs n size starts stops c) few

pub stops_room : (runs : ℕ → Option Run) (n size : ℕ) (starts stops : List ℕ) (a : ℕ) → n ≤ 2 ^ 28 → AreCounted runs n size starts stops → slice_index stops a < 2 ^ 32 - 1
stops_room runs n size starts stops a few c = room stops size n a c.stops_len (stops_most runs n size starts stops c) few

-- the counts after a call are those with one more run
pub counted_by : (runs : ℕ → Option Run) (n size : ℕ) (starts stops : List ℕ) (r : Run) (begun ended : List ℕ) → runs n ≡ Some r → begun ≡ with_one_more_at starts r.first → ended ≡ with_one_more_at stops r.end → AreCounted runs n size starts stops → AreCounted runs (n + 1) size begun ended
counted_by runs n size starts stops r begun ended e f g c =
    subst (λ (l : List ℕ). AreCounted runs (n + 1) size l ended) (sym f) (subst (λ (l : List ℕ). AreCounted runs (n + 1) size (with_one_more_at starts r.first) l) (sym g) (counted_more runs n size starts stops r e c))

module _ (core : List ℕ) (dbr : DbrFields) (seg : ℕ) where
  none_by : (v : Result SdwFields Refusal) → core_sdw core dbr seg ≡ v → ((d : SdwFields) → v ≡ Ok d → has_ordered_brackets d ≡ false) → (piece : ℕ) → run_of core v piece ≡ None
  none_by (Err e) live off piece = refl
  none_by (Ok d) live off piece = ap (λ (b : Bool). run_if_ordered b core d piece) (off d refl)

  -- a number of this segment
  at_number : (i : ℕ) → 256 * seg ≤ i → i < 256 * (seg + 1) → run core dbr i ≡ run_of core (core_sdw core dbr seg) (i - 256 * seg)
  at_number i low high =
      let e : i ≡ 256 * seg + (i - 256 * seg) = omega arith in
      ap (run core dbr) e ∙ run_at core dbr seg (i - 256 * seg) (omega arith)

  -- a segment without words
  pub no_runs : ((d : SdwFields) → core_sdw core dbr seg ≡ Ok d → has_ordered_brackets d ≡ false) → (size : ℕ) (starts stops : List ℕ) → AreCounted (run core dbr) (256 * seg) size starts stops → AreCounted (run core dbr) (256 * (seg + 1)) size starts stops
  no_runs off size starts stops c =
      counted_on (run core dbr) (256 * seg) (256 * (seg + 1)) size starts stops (omega arith)
      (λ i low high. at_number i low high ∙ none_by (core_sdw core dbr seg) refl off (i - 256 * seg)) c

  module _ (d : SdwFields) (live : core_sdw core dbr seg ≡ Ok d) (order : has_ordered_brackets d ≡ true) where
    -- the run of a number of a live segment
    pub live_at : (u : Bool) → d.unpaged ≡ u → (piece : ℕ) → piece < 256 → run core dbr (256 * seg + piece) ≡ run_by u core d piece
    live_at u e piece few =
        run_at core dbr seg piece few ∙ run_live core d (core_sdw core dbr seg) piece live order ∙ ap (λ (b : Bool). run_by b core d piece) e

    live_number : (u : Bool) → d.unpaged ≡ u → (i : ℕ) → 256 * seg ≤ i → i < 256 * (seg + 1) → run core dbr i ≡ run_by u core d (i - 256 * seg)
    live_number u e i low high =
        let same : i ≡ 256 * seg + (i - 256 * seg) = omega arith in
        ap (run core dbr) same ∙ live_at u e (i - 256 * seg) (omega arith)

    two_only : (piece : ℕ) → 2 ≤ piece → unpaged_run d piece ≡ None
    two_only zero h = absurd (omega arith)
    two_only (suc zero) h = absurd (omega arith)
    two_only (suc (suc n)) h = refl

    pub first_whole : d.unpaged ≡ true → run core dbr (256 * seg) ≡ unpaged_run d 0
    first_whole whole =
        let e : 256 * seg ≡ 256 * seg + 0 = omega arith in
        ap (run core dbr) e ∙ live_at true whole 0 (omega arith)

    pub second_whole : d.unpaged ≡ true → run core dbr (256 * seg + 1) ≡ unpaged_run d 1
    second_whole whole = live_at true whole 1 (omega arith)

    pub whole_done : d.unpaged ≡ true → (size : ℕ) (starts stops : List ℕ) → AreCounted (run core dbr) (256 * seg + 1 + 1) size starts stops → AreCounted (run core dbr) (256 * (seg + 1)) size starts stops
    whole_done whole size starts stops c =
        counted_on (run core dbr) (256 * seg + 1 + 1) (256 * (seg + 1)) size starts stops (omega arith)
        (λ i low high. live_number true whole i (omega arith) high ∙ two_only (i - 256 * seg) (omega arith)) c

    -- one page
    pub page_at_number : d.unpaged ≡ false → (page : ℕ) → page ≤ d.bound / 64 → run core dbr (256 * seg + page) ≡ page_run core d page
    page_at_number paged page begins =
        let bound = (live_fits core dbr seg d live).bound in
        live_at false paged page (omega arith)

    pub page_absent : d.unpaged ≡ false → (page : ℕ) → page ≤ d.bound / 64 → None ≡ page_run core d page → (size : ℕ) (starts stops : List ℕ) → AreCounted (run core dbr) (256 * seg + page) size starts stops → AreCounted (run core dbr) (256 * seg + page + 1) size starts stops
    page_absent paged page begins none size starts stops c =
        counted_on (run core dbr) (256 * seg + page) (256 * seg + page + 1) size starts stops (omega arith)
        (λ i low high. let e : i ≡ 256 * seg + page = omega arith in ap (run core dbr) e ∙ page_at_number paged page begins ∙ sym none) c

    pub pages_counted : d.unpaged ≡ false → (page : ℕ) → d.bound / 64 < page → page ≤ 256 → (size : ℕ) (starts stops : List ℕ) → AreCounted (run core dbr) (256 * seg + page) size starts stops → AreCounted (run core dbr) (256 * (seg + 1)) size starts stops
    pages_counted paged page past few size starts stops c =
        counted_on (run core dbr) (256 * seg + page) (256 * (seg + 1)) size starts stops (omega arith)
        (λ i low high. live_number false paged i (omega arith) high ∙ ap (λ (b : Bool). page_run_by b core d (i - 256 * seg)) (lt-leb (i - 256 * seg) (d.bound / 64) (omega arith))) c

-- once every segment in bounds was visited, all runs are counted
module _ (core : List ℕ) (dbr : DbrFields) (n m : ℕ) (bounds : (q : ℕ) → has_descriptor_in_bounds dbr q ≡ nat_lt q n) (enough : n ≤ m) (few : m ≤ 2 ^ 15) where
  dead_by : (seg : ℕ) → m ≤ seg → (v : Result SdwFields Refusal) → core_sdw core dbr seg ≡ v → (piece : ℕ) → run_of core v piece ≡ None
  dead_by seg far (Err e) live piece = refl
  dead_by seg far (Ok d) live piece =
      let lt : seg < n = ltb-true seg n (sym (bounds seg) ∙ live_in_bounds core dbr seg d live) in
      absurd (omega arith)

  dead : (i : ℕ) → 256 * m ≤ i → run core dbr i ≡ None
  unfolding run
  dead i far = dead_by (i / 256) (omega arith) (core_sdw core dbr (i / 256)) refl (i % 256)

  pub all_counted : (size : ℕ) (starts stops : List ℕ) → AreCounted (run core dbr) (256 * m) size starts stops → AreCounted (run core dbr) (2 ^ 23) size starts stops
  all_counted size starts stops c =
      counted_on (run core dbr) (256 * m) (2 ^ 23) size starts stops (omega arith) (λ i low high. dead i low) c

pub disorder_at : (core : List ℕ) (dbr : DbrFields) (seg : ℕ) (d : SdwFields) → core_sdw core dbr seg ≡ Ok d → has_ordered_brackets d ≡ false → (e : SdwFields) → core_sdw core dbr seg ≡ Ok e → has_ordered_brackets e ≡ false
disorder_at core dbr seg d live off e live_too =
    let same : e ≡ d = cc in
    ap has_ordered_brackets same ∙ off

-- no run is counted
pub nothing_counted : (runs : ℕ → Option Run) (size : ℕ) (starts stops : List ℕ) → starts ≡ replicate size 0 → stops ≡ replicate size 0 → AreCounted runs 0 size starts stops
nothing_counted runs size starts stops e f =
    record {
      starts_len = ap length e ∙ length-replicate {A = ℕ} size 0;
      stops_len = ap length f ∙ length-replicate {A = ℕ} size 0;
      begin = λ a inside. ap (λ (l : List ℕ). slice_index l a) e ∙ get_or-replicate size a 0 0 inside ∙ sym (count_zero (λ i. begins_at a (runs i)));
      end = λ a inside. ap (λ (l : List ℕ). slice_index l a) f ∙ get_or-replicate size a 0 0 inside ∙ sym (count_zero (λ i. ends_at a (runs i)));
    }

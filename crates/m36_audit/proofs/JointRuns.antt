-- The runs of first descriptors are counted, one segment after another.
use Rattle.std.proofs.Common.{◌≡◌, ◌≢◌, ℕ, zero, suc, ◌+◌, ◌-◌, ◌*◌, ◌/◌, ◌%◌, ◌^◌, ◌<◌, ◌≤◌, refl, sym, ◌∙◌, ap, subst, arith}
use Rattle.std.specs.Prelude.{if◌then◌else◌, Bool, true, false, ◌==◌, nat_lt, List, slice_get, slice_index, Option, Some, None, Result, Ok, Err}
use Rattle.std.proofs.lemmas.Bool.{lt-leb, ltb-true, ne_eqb, eq-eqb}
use Rattle.m36_desc.specs.Fields.{SdwFields, DbrFields}
use Rattle.m36_desc.specs.Access.{has_ordered_brackets}
use Rattle.m36_model.specs.Place.{has_descriptor_in_bounds, core_sdw}
use Rattle.m36_model.specs.declared.outcome.Refusal.{Refusal}
use Rattle.m36_audit.specs.declared.run.Run.{Run}
use Rattle.m36_audit.specs.Runs.{unpaged_run, page_run_by, run_by, run_if_ordered, run_of, AreCounted}
use Rattle.m36_audit.specs.WordOwners.{unpaged_first_run, run_of_process, joint_run, piece_count, with_start, with_stop}
use Rattle.m36_audit.proofs.Bounds.{live_in_bounds}
use Rattle.m36_audit.proofs.Covering.{counted_on}
use Rattle.m36_audit.proofs.SegmentRuns.{counted_by}
use Rattle.m36_audit.proofs.SegmentWords.{run_at, run_live}

-- one more number, with a run or without
pub piece_counted : (runs : ℕ → Option Run) (n size : ℕ) (starts stops : List ℕ) (o : Option Run) (begun ended : List ℕ) → runs n ≡ o → begun ≡ with_start o starts → ended ≡ with_stop o stops → AreCounted runs n size starts stops → AreCounted runs (n + 1) size begun ended
piece_counted runs n size starts stops None begun ended e f g c =
    subst (λ (l : List ℕ). AreCounted runs (n + 1) size l ended) (sym f) (subst (λ (l : List ℕ). AreCounted runs (n + 1) size starts l) (sym g)
    (counted_on runs n (n + 1) size starts stops (omega arith) (λ i low high. let is : i ≡ n = omega arith in ap runs is ∙ e) c))
piece_counted runs n size starts stops (Some r) begun ended e f g c = counted_by runs n size starts stops r begun ended e f g c

two_only : (d : SdwFields) (piece : ℕ) → 2 ≤ piece → unpaged_run d piece ≡ None
two_only d zero h = absurd (omega arith)
two_only d (suc zero) h = absurd (omega arith)
two_only d (suc (suc n)) h = refl

past_by : (u : Bool) (core : List ℕ) (d : SdwFields) (piece : ℕ) → (if u then 2 else (d.bound / 64 + 1)) ≤ piece → run_by u core d piece ≡ None
past_by true core d piece le = two_only d piece le
past_by false core d piece le = ap (λ (b : Bool). page_run_by b core d piece) (lt-leb piece (d.bound / 64) (omega arith))

-- a segment has no runs after its last one
pub pieces_done : (runs : ℕ → Option Run) (core : List ℕ) (d : SdwFields) (table_number n size : ℕ) (starts stops : List ℕ) → ((piece : ℕ) → piece < 256 → runs (256 * table_number + piece) ≡ run_by d.unpaged core d piece) → piece_count d ≤ n → n ≤ 256 → AreCounted runs (256 * table_number + n) size starts stops → AreCounted runs (256 * (table_number + 1)) size starts stops
pieces_done runs core d table_number n size starts stops is le few c =
    counted_on runs (256 * table_number + n) (256 * (table_number + 1)) size starts stops (omega arith) none c
  where
    none : (i : ℕ) → 256 * table_number + n ≤ i → i < 256 * (table_number + 1) → runs i ≡ None
    none i low high =
        let e : i ≡ 256 * table_number + (i - 256 * table_number) = omega arith in
        let small : i - 256 * table_number < 256 = omega arith in
        let far : piece_count d ≤ i - 256 * table_number = omega arith in
        ap runs e ∙ is (i - 256 * table_number) small ∙ past_by d.unpaged core d (i - 256 * table_number) far

module _ (core : List ℕ) (dbrs : List DbrFields) (firsts : List ℕ) (k : ℕ) (dbr : DbrFields) (process : slice_get dbrs k ≡ Some dbr) where
  module _ (seg : ℕ) (small : seg < 2 ^ 15) where
    pub joint_at : (piece : ℕ) → piece < 256 → joint_run core dbrs firsts (256 * (2 ^ 15 * k + seg) + piece) ≡ unpaged_first_run (slice_index firsts (2 ^ 15 * k + seg) == 2 ^ 15 * k + seg) (run_of core (core_sdw core dbr seg) piece)
    unfolding joint_run
    joint_at piece few =
        let table_number : (256 * (2 ^ 15 * k + seg) + piece) / 256 ≡ 2 ^ 15 * k + seg = omega arith in
        let owner : (256 * (2 ^ 15 * k + seg) + piece) / 2 ^ 23 ≡ k = omega arith in
        let own : (256 * (2 ^ 15 * k + seg) + piece) % 2 ^ 23 ≡ 256 * seg + piece = omega arith in
        let at : slice_get dbrs ((256 * (2 ^ 15 * k + seg) + piece) / 2 ^ 23) ≡ Some dbr = ap (slice_get dbrs) owner ∙ process in
        (λ i. unpaged_first_run (slice_index firsts (table_number i) == table_number i) (run_of_process core (at i) (own i)))
        ∙ ap (unpaged_first_run (slice_index firsts (2 ^ 15 * k + seg) == 2 ^ 15 * k + seg)) (run_at core dbr seg piece few)

    -- a segment whose runs are not counted
    none_at : ((piece : ℕ) → unpaged_first_run (slice_index firsts (2 ^ 15 * k + seg) == 2 ^ 15 * k + seg) (run_of core (core_sdw core dbr seg) piece) ≡ None) → (size : ℕ) (starts stops : List ℕ) → AreCounted (joint_run core dbrs firsts) (256 * (2 ^ 15 * k + seg)) size starts stops → AreCounted (joint_run core dbrs firsts) (256 * (2 ^ 15 * k + seg + 1)) size starts stops
    none_at off size starts stops c =
        counted_on (joint_run core dbrs firsts) (256 * (2 ^ 15 * k + seg)) (256 * (2 ^ 15 * k + seg + 1)) size starts stops (omega arith) none c
      where
        none : (i : ℕ) → 256 * (2 ^ 15 * k + seg) ≤ i → i < 256 * (2 ^ 15 * k + seg + 1) → joint_run core dbrs firsts i ≡ None
        none i low high =
            let e : i ≡ 256 * (2 ^ 15 * k + seg) + (i - 256 * (2 ^ 15 * k + seg)) = omega arith in
            let few : i - 256 * (2 ^ 15 * k + seg) < 256 = omega arith in
            ap (joint_run core dbrs firsts) e ∙ joint_at (i - 256 * (2 ^ 15 * k + seg)) few ∙ off (i - 256 * (2 ^ 15 * k + seg))

    pub not_first : slice_index firsts (2 ^ 15 * k + seg) ≢ 2 ^ 15 * k + seg → (size : ℕ) (starts stops : List ℕ) → AreCounted (joint_run core dbrs firsts) (256 * (2 ^ 15 * k + seg)) size starts stops → AreCounted (joint_run core dbrs firsts) (256 * (2 ^ 15 * k + seg + 1)) size starts stops
    not_first far = none_at (λ piece. ap (λ (b : Bool). unpaged_first_run b (run_of core (core_sdw core dbr seg) piece)) (ne_eqb (slice_index firsts (2 ^ 15 * k + seg)) (2 ^ 15 * k + seg) far))

    first_none : (b : Bool) → unpaged_first_run b None ≡ None
    first_none true = refl
    first_none false = refl

    none_by : (v : Result SdwFields Refusal) → core_sdw core dbr seg ≡ v → ((d : SdwFields) → v ≡ Ok d → has_ordered_brackets d ≡ false) → (piece : ℕ) → run_of core v piece ≡ None
    none_by (Err e) live off piece = refl
    none_by (Ok d) live off piece = ap (λ (b : Bool). run_if_ordered b core d piece) (off d refl)

    pub no_words : ((d : SdwFields) → core_sdw core dbr seg ≡ Ok d → has_ordered_brackets d ≡ false) → (size : ℕ) (starts stops : List ℕ) → AreCounted (joint_run core dbrs firsts) (256 * (2 ^ 15 * k + seg)) size starts stops → AreCounted (joint_run core dbrs firsts) (256 * (2 ^ 15 * k + seg + 1)) size starts stops
    no_words off = none_at (λ piece. ap (unpaged_first_run (slice_index firsts (2 ^ 15 * k + seg) == 2 ^ 15 * k + seg)) (none_by (core_sdw core dbr seg) refl off piece) ∙ first_none (slice_index firsts (2 ^ 15 * k + seg) == 2 ^ 15 * k + seg))

    -- the runs of a segment that has a first descriptor, is live, and has its brackets in order
    pub runs_are : slice_index firsts (2 ^ 15 * k + seg) ≡ 2 ^ 15 * k + seg → (d : SdwFields) → core_sdw core dbr seg ≡ Ok d → has_ordered_brackets d ≡ true → (piece : ℕ) → piece < 256 → joint_run core dbrs firsts (256 * (2 ^ 15 * k + seg) + piece) ≡ run_by d.unpaged core d piece
    runs_are first d live order piece few =
        joint_at piece few
        ∙ ap (λ (b : Bool). unpaged_first_run b (run_of core (core_sdw core dbr seg) piece)) (eq-eqb (slice_index firsts (2 ^ 15 * k + seg)) (2 ^ 15 * k + seg) first)
        ∙ run_live core d (core_sdw core dbr seg) piece live order

  -- once every segment in bounds was visited, all runs of the process are counted
  pub process_counted : (n m size : ℕ) (starts stops : List ℕ) → ((q : ℕ) → has_descriptor_in_bounds dbr q ≡ nat_lt q n) → n ≤ m → m ≤ 2 ^ 15 → AreCounted (joint_run core dbrs firsts) (256 * (2 ^ 15 * k + m)) size starts stops → AreCounted (joint_run core dbrs firsts) (256 * (2 ^ 15 * (k + 1))) size starts stops
  process_counted n m size starts stops bounds enough few c =
      counted_on (joint_run core dbrs firsts) (256 * (2 ^ 15 * k + m)) (256 * (2 ^ 15 * (k + 1))) size starts stops (omega arith) none c
    where
      dead_by : (seg : ℕ) → m ≤ seg → (v : Result SdwFields Refusal) → core_sdw core dbr seg ≡ v → (piece : ℕ) (b : Bool) → unpaged_first_run b (run_of core v piece) ≡ None
      dead_by seg far v live piece false = refl
      dead_by seg far (Err e) live piece true = refl
      dead_by seg far (Ok d) live piece true =
          let lt : seg < n = ltb-true seg n (sym (bounds seg) ∙ live_in_bounds core dbr seg d live) in
          absurd (omega arith)

      none : (i : ℕ) → 256 * (2 ^ 15 * k + m) ≤ i → i < 256 * (2 ^ 15 * (k + 1)) → joint_run core dbrs firsts i ≡ None
      none i low high =
          let small : i / 256 - 2 ^ 15 * k < 2 ^ 15 = omega arith in
          let far : m ≤ i / 256 - 2 ^ 15 * k = omega arith in
          let e : i ≡ 256 * (2 ^ 15 * k + (i / 256 - 2 ^ 15 * k)) + i % 256 = omega arith in
          let few_pieces : i % 256 < 256 = omega arith in
          ap (joint_run core dbrs firsts) e ∙ joint_at (i / 256 - 2 ^ 15 * k) small (i % 256) few_pieces ∙ dead_by (i / 256 - 2 ^ 15 * k) far (core_sdw core dbr (i / 256 - 2 ^ 15 * k)) refl (i % 256) _

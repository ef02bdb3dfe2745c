-- A page in front serves a request: it finds what the tables would find, and its marks are already
-- set.
use Rattle.std.proofs.Common.{ℕ, ◌≡◌, ◌+◌, ◌%◌, ◌≤◌, arith, Bool, true, false, ◌==◌, List, length, Option, None, Ok, ap, sym, refl, ◌∙◌}
use Rattle.m36_desc.specs.Fields.{SdwFields, DbrFields}
use Rattle.m36_desc.specs.Access.{unless_violation, first_violation, read_rows, write_rows, fetch_rows, transfer_rows}
use Rattle.m36_model.specs.Fields.{AtFields}
use Rattle.m36_model.specs.Act.{Fetch, Indirect, Odd, Read, Transfer}
use Rattle.m36_model.specs.Core.{core_store}
use Rattle.m36_model.specs.Place.{core_sdw}
use Rattle.m36_model.specs.Store.{spots_of, is_within_bound, bound_only}
use Rattle.m36_associative.specs.Right.{Answers, MayRead, MayWrite, MayFetch, MayTransferTo}
use Rattle.m36_walk.specs.ReferenceResult.{reference_result, MarksAreSet}
use Rattle.m36_walk.specs.Runs.{run_from, IsInCore}
use Rattle.m36_walk.specs.Served.{sdw_or_zero, sdw_in, result_at_target, ServesRun, ServesClaim, ServesWithoutChange}
use Rattle.m36_walk.specs.declared.reference.LookupResult.{LookupResult}
use Rattle.m36_walk.proofs.TargetLaws.{transfer_served}
use Rattle.m36_walk.proofs.ByKind.{FoundBy}
use Rattle.m36_walk.proofs.Spots.{places_run, examined_inside, lies_inside}
use Rattle.m36_walk.proofs.ReturnedWords.{read_told, indirect_told, odd_told, fetch_told, write_told}

-- what a page in front answers, at a word
abbrev pub AnswersRead : List ℕ → DbrFields → ℕ → ℕ → ℕ → AtFields → Type 0
AnswersRead core dbr ring count a at = Answers core dbr (λ d. MayRead at.ring d × (ring ≡ d.r1)) false at.seg at.word count a

abbrev pub AnswersReadAlone : List ℕ → DbrFields → ℕ → ℕ → AtFields → Type 0
AnswersReadAlone core dbr count a at = Answers core dbr (MayRead at.ring) false at.seg at.word count a

abbrev pub AnswersWrite : List ℕ → DbrFields → ℕ → ℕ → AtFields → Type 0
AnswersWrite core dbr count a at = Answers core dbr (MayWrite at.ring) true at.seg at.word count a

abbrev pub AnswersFetch : List ℕ → DbrFields → Bool → ℕ → AtFields → Type 0
AnswersFetch core dbr privileged a at = Answers core dbr (λ d. MayFetch at.ring d × (privileged ≡ d.privileged)) false at.seg at.word 1 a

abbrev pub AnswersGo : List ℕ → DbrFields → AtFields → Type 0
AnswersGo core dbr at = (a : ℕ) × Answers core dbr (MayTransferTo at.ring) false at.seg at.word 1 a

module _ (core : List ℕ) (dbr : DbrFields) (at : AtFields) (Rights : SdwFields → Type 0) (write : Bool) (count a : ℕ) (h : Answers core dbr Rights write at.seg at.word count a) where
  abbrev found : LookupResult
  found = record { sdw = h.sdw; place = a }

  -- its descriptor is that of the segment
  pub its_sdw : h.sdw ≡ sdw_in (record { core = core; dbr = dbr }) at.seg
  unfolding sdw_in
  its_sdw = sym (ap sdw_or_zero h.found)

  spots : 1 ≤ count → at.word % 16 + count ≤ 16 → spots_of core_store core dbr h.sdw at.seg at.word count ≡ Ok (run_from a count)
  spots s b = places_run core dbr h.sdw at.seg at.word count a s b h.bound h.at ∙ examined_inside (length core) at.word a count h.small h.inside

  found_by : (R : SdwFields → Option ℕ) → R h.sdw ≡ None → 1 ≤ count → at.word % 16 + count ≤ 16 → FoundBy R core dbr at count (Ok found)
  unfolding reference_result
  found_by R r s b = rw (h.found, r, spots s b) refl

  marked : MarksAreSet dbr at write core core (Ok found)
  marked = sym h.marked

  pub lies : IsInCore (length core) a count
  lies = lies_inside (length core) a count h.small h.inside

module _ (core : List ℕ) (dbr : DbrFields) (at : AtFields) (ring count a : ℕ) (h : AnswersRead core dbr ring count a at) (s : 1 ≤ count) (b : at.word % 16 + count ≤ 16) (psr : ℕ) where
  abbrev Rights : SdwFields → Type 0
  Rights d = MayRead at.ring d × (ring ≡ d.r1)

  found_read : FoundBy (λ d. first_violation (read_rows d at.ring (at.seg == psr))) core dbr at count (Ok (found core dbr at Rights false count a h))
  found_read = found_by core dbr at Rights false count a h (λ d. first_violation (read_rows d at.ring (at.seg == psr))) (h.rights.0 (at.seg == psr)) s b

  pub serves_read : ServesRun (λ g. g.ppr.psr ≡ psr) Read (record { core = core; dbr = dbr }) core at count (Ok a)
  serves_read = λ g e k claims refs puts changed c. read_told g dbr e core core at count claims refs puts changed c psr k (Ok (found core dbr at Rights false count a h)) found_read (marked core dbr at Rights false count a h)

  pub serves_indirect : ServesRun (λ g. g.ppr.psr ≡ psr) Indirect (record { core = core; dbr = dbr }) core at count (Ok a)
  serves_indirect = λ g e k claims refs puts changed c. indirect_told g dbr e core core at count claims refs puts changed c psr k (Ok (found core dbr at Rights false count a h)) found_read (marked core dbr at Rights false count a h)

  pub serves_odd : ServesRun (λ g. g.ppr.psr ≡ psr) Odd (record { core = core; dbr = dbr }) core at count (Ok a)
  serves_odd = λ g e k claims refs puts changed c. odd_told g dbr e core core at count claims refs puts changed c psr k (Ok (found core dbr at Rights false count a h)) found_read (marked core dbr at Rights false count a h)

-- R1 in the answer
pub ring_is : (core : List ℕ) (dbr : DbrFields) (at : AtFields) (ring count a : ℕ) → AnswersRead core dbr ring count a at → ring ≡ (sdw_in (record { core = core; dbr = dbr }) at.seg).r1
ring_is core dbr at ring count a h = h.rights.1 ∙ ap (λ d. d.r1) (its_sdw core dbr at (λ d. MayRead at.ring d × (ring ≡ d.r1)) false count a h)

pub read_alone : (core : List ℕ) (dbr : DbrFields) (at : AtFields) (count a : ℕ) → (h : AnswersReadAlone core dbr count a at) → 1 ≤ count → at.word % 16 + count ≤ 16 → (psr : ℕ) → ServesRun (λ g. g.ppr.psr ≡ psr) Read (record { core = core; dbr = dbr }) core at count (Ok a)
read_alone core dbr at count a h s b psr =
    let more : AnswersRead core dbr h.sdw.r1 count a at = record { sdw = h.sdw; found = h.found; rights = (h.rights, refl); bound = h.bound; at = h.at; small = h.small; inside = h.inside; marked = h.marked } in
    serves_read core dbr at h.sdw.r1 count a more s b psr

pub serves_write : (core : List ℕ) (dbr : DbrFields) (at : AtFields) (count a : ℕ) → AnswersWrite core dbr count a at → 1 ≤ count → at.word % 16 + count ≤ 16 → ServesClaim (record { core = core; dbr = dbr }) core at count (Ok a)
serves_write core dbr at count a h s b = λ g e claims refs puts.
    write_told g dbr e core core at count claims refs puts _ refl (Ok (found core dbr at (MayWrite at.ring) true count a h)) (found_by core dbr at (MayWrite at.ring) true count a h (λ d. first_violation (write_rows d at.ring)) h.rights s b) (marked core dbr at (MayWrite at.ring) true count a h)

module _ (core : List ℕ) (dbr : DbrFields) (at : AtFields) (privileged : Bool) (a : ℕ) (h : AnswersFetch core dbr privileged a at) where
  abbrev Fetches : SdwFields → Type 0
  Fetches d = MayFetch at.ring d × (privileged ≡ d.privileged)

  pub serves_fetch : at.word % 16 + 1 ≤ 16 → ServesRun (λ g. g.ppr.prr ≡ at.ring) Fetch (record { core = core; dbr = dbr }) core at 1 (Ok a)
  serves_fetch b = λ g e k claims refs puts changed c.
      fetch_told g dbr e core core at 1 claims refs puts changed c k (Ok (found core dbr at Fetches false 1 a h)) (found_by core dbr at Fetches false 1 a h (λ d. first_violation (fetch_rows d at.ring)) h.rights.0 (omega arith) b) (marked core dbr at Fetches false 1 a h)

  pub privileged_is : privileged ≡ (sdw_in (record { core = core; dbr = dbr }) at.seg).privileged
  privileged_is = h.rights.1 ∙ ap (λ d. d.privileged) (its_sdw core dbr at Fetches false 1 a h)

-- a transfer may go to a word of a page in front
goes_by : (core : List ℕ) (dbr : DbrFields) (at : AtFields) (a : ℕ) (h : Answers core dbr (MayTransferTo at.ring) false at.seg at.word 1 a) → reference_result (λ d. unless_violation tt (first_violation (transfer_rows d at.ring at.ring))) (λ d. bound_only (is_within_bound d at.word) at.word) (core_sdw core dbr at.seg) at ≡ result_at_target h.sdw (Ok (tt {0}))
unfolding reference_result
goes_by core dbr at a h = rw (h.found, h.rights, h.bound) refl

pub serves_go : (core : List ℕ) (dbr : DbrFields) (at : AtFields) → AnswersGo core dbr at → ServesWithoutChange (λ g. g.ppr.prr ≡ at.ring) Transfer (record { core = core; dbr = dbr }) at (result_at_target (sdw_in (record { core = core; dbr = dbr }) at.seg) (Ok (tt {0})))
serves_go core dbr at w = λ g e k claims refs puts.
    rw (← its_sdw core dbr at (MayTransferTo at.ring) false 1 w.0 w.1) (transfer_served g dbr e core at (result_at_target w.1.sdw (Ok (tt {0}))) claims refs puts at.ring k (goes_by core dbr at w.0 w.1))

-- Each kind of request to core, as the walk makes it.
use Rattle.std.proofs.Common.{ℕ, ◌≡◌, true, false, List, Option, Result, Ok, Err, ◌==◌, refl, ap, sym, subst, ◌∙◌}
use Rattle.m36_desc.specs.Fields.{SdwFields, DbrFields}
use Rattle.m36_desc.specs.Access.{unless_violation, first_violation, read_rows, write_rows, fetch_rows}
use Rattle.m36_model.specs.Fields.{AtFields}
use Rattle.m36_model.specs.Registers.{RegsFields}
use Rattle.m36_model.specs.Act.{Fetch, Indirect, Odd, Read, Write, Put, Request}
use Rattle.m36_model.specs.Store.{Spot, serve, spots_of_request, spots_of, refusing_violation, touches}
use Rattle.m36_model.specs.Core.{core_store}
use Rattle.m36_model.specs.Place.{core_sdw, core_marked, marks, is_write}
use Rattle.m36_model.specs.declared.outcome.Fault.{Fault}
use Rattle.m36_model.specs.declared.outcome.Refusal.{Refusal}
use Rattle.m36_model.specs.declared.place.Reference.{Reference}
use Rattle.m36_walk.specs.ReferenceResult.{reference_result, result_of_lookup, MarksAreSet}
use Rattle.m36_walk.specs.Runs.{run_from}
use Rattle.m36_walk.specs.Served.{midstep_with, request, served_with_result}
use Rattle.m36_walk.specs.declared.reference.LookupResult.{LookupResult}
use Rattle.m36_walk.proofs.Serving.{core_after, served_as, reached_is}

module _ (g : RegsFields) (core new : List ℕ) (claims : List Spot) (refs : List Reference) (q : Request) (R : SdwFields → Option ℕ) where
  abbrev P : SdwFields → Result (List Spot) (ℕ × Refusal)
  P d = spots_of core_store core g.dbr d q.at.seg q.at.word q.count

  -- a reference that sets marks leaves core as its request does
  marked_after : touches q.kind ≡ true → (result : Result LookupResult Fault) → reference_result (λ d. unless_violation tt (R d)) P (core_sdw core g.dbr q.at.seg) q.at ≡ result_of_lookup q.count result → MarksAreSet g.dbr q.at (is_write q.kind) core new result → core_after core g.dbr q (result_of_lookup q.count result) ≡ new
  unfolding core_marked marks
  marked_after t (Ok f) h m =
      let is : core_sdw core g.dbr q.at.seg ≡ Ok f.sdw = reached_is (λ d. unless_violation tt (R d)) P (core_sdw core g.dbr q.at.seg) q.at (record { sdw = f.sdw; spots = run_from f.place q.count }) h in
      rw (t, is) (sym m)
  marked_after t (Err f) h m = sym m

  -- a reference that sets marks is served by what was found
  pub referred : touches q.kind ≡ true → ((d : SdwFields) → refusing_violation q.kind d q.at.ring g.ppr.prr (q.at.seg == g.ppr.psr) q.at.word ≡ R d) → ((d : SdwFields) → spots_of_request core_store core g.dbr d q ≡ P d) → (result : Result LookupResult Fault)
      → reference_result (λ d. unless_violation tt (R d)) P (core_sdw core g.dbr q.at.seg) q.at ≡ result_of_lookup q.count result → MarksAreSet g.dbr q.at (is_write q.kind) core new result
      → serve core_store g (midstep_with core claims refs) q ≡ served_with_result q new claims refs (result_of_lookup q.count result)
  referred t e f result h m =
      served_as g core claims refs q R P (result_of_lookup q.count result) e f h ∙ ap (λ c. served_with_result q c claims refs (result_of_lookup q.count result)) (marked_after t result h m)

-- The result of the walk for `count` words, by the rights that it has checked.
abbrev pub FoundBy : (SdwFields → Option ℕ) → List ℕ → DbrFields → AtFields → ℕ → Result LookupResult Fault → Type 0
FoundBy R core dbr at count result =
    reference_result (λ d. unless_violation tt (R d)) (λ d. spots_of core_store core dbr d at.seg at.word count) (core_sdw core dbr at.seg) at ≡ result_of_lookup count result

module _ (g : RegsFields) (dbr : DbrFields) (e : g.dbr ≡ dbr) (core new : List ℕ) (at : AtFields) (count : ℕ) (result : Result LookupResult Fault) (claims : List Spot) (refs : List Reference) (puts : List Put) where
  module _ (psr : ℕ) (k : g.ppr.psr ≡ psr) (h : FoundBy (λ d. first_violation (read_rows d at.ring (at.seg == psr))) core dbr at count result) (m : MarksAreSet dbr at false core new result) where
    same_psr : FoundBy (λ d. first_violation (read_rows d at.ring (at.seg == g.ppr.psr))) core g.dbr at count result
    same_psr = subst (λ (p : ℕ). FoundBy (λ d. first_violation (read_rows d at.ring (at.seg == p))) core g.dbr at count result) (sym k) (subst (λ (b : DbrFields). FoundBy (λ d. first_violation (read_rows d at.ring (at.seg == psr))) core b at count result) (sym e) h)

    same_marks : MarksAreSet g.dbr at false core new result
    same_marks = subst (λ (b : DbrFields). MarksAreSet b at false core new result) (sym e) m

    pub read_served : serve core_store g (midstep_with core claims refs) (request Read at count puts) ≡ served_with_result (request Read at count puts) new claims refs (result_of_lookup count result)
    unfolding refusing_violation spots_of_request
    read_served = referred g core new claims refs (request Read at count puts) (λ d. first_violation (read_rows d at.ring (at.seg == g.ppr.psr))) refl (λ d. refl) (λ d. refl) result same_psr same_marks

    pub indirect_served : serve core_store g (midstep_with core claims refs) (request Indirect at count puts) ≡ served_with_result (request Indirect at count puts) new claims refs (result_of_lookup count result)
    unfolding refusing_violation spots_of_request
    indirect_served = referred g core new claims refs (request Indirect at count puts) (λ d. first_violation (read_rows d at.ring (at.seg == g.ppr.psr))) refl (λ d. refl) (λ d. refl) result same_psr same_marks

    pub odd_served : serve core_store g (midstep_with core claims refs) (request Odd at count puts) ≡ served_with_result (request Odd at count puts) new claims refs (result_of_lookup count result)
    unfolding refusing_violation spots_of_request
    odd_served = referred g core new claims refs (request Odd at count puts) (λ d. first_violation (read_rows d at.ring (at.seg == g.ppr.psr))) refl (λ d. refl) (λ d. refl) result same_psr same_marks

  pub write_served : FoundBy (λ d. first_violation (write_rows d at.ring)) core dbr at count result → MarksAreSet dbr at true core new result
      → serve core_store g (midstep_with core claims refs) (request Write at count puts) ≡ served_with_result (request Write at count puts) new claims refs (result_of_lookup count result)
  unfolding refusing_violation spots_of_request
  write_served h m =
      referred g core new claims refs (request Write at count puts) (λ d. first_violation (write_rows d at.ring)) refl (λ d. refl) (λ d. refl) result
      (subst (λ (b : DbrFields). FoundBy (λ d. first_violation (write_rows d at.ring)) core b at count result) (sym e) h)
      (subst (λ (b : DbrFields). MarksAreSet b at true core new result) (sym e) m)

  pub fetch_served : g.ppr.prr ≡ at.ring → FoundBy (λ d. first_violation (fetch_rows d at.ring)) core dbr at count result → MarksAreSet dbr at false core new result
      → serve core_store g (midstep_with core claims refs) (request Fetch at count puts) ≡ served_with_result (request Fetch at count puts) new claims refs (result_of_lookup count result)
  unfolding refusing_violation spots_of_request
  fetch_served k h m =
      referred g core new claims refs (request Fetch at count puts) (λ d. first_violation (fetch_rows d g.ppr.prr)) refl (λ d. refl) (λ d. refl) result
      (subst (λ (p : ℕ). FoundBy (λ d. first_violation (fetch_rows d p)) core g.dbr at count result) (sym k) (subst (λ (b : DbrFields). FoundBy (λ d. first_violation (fetch_rows d at.ring)) core b at count result) (sym e) h))
      (subst (λ (b : DbrFields). MarksAreSet b at false core new result) (sym e) m)

-- Requests that touch no word: the target of a transfer or of a call, and the place of a word.
use Rattle.std.proofs.Common.{ℕ, ◌≡◌, false, List, [], Option, Result, Ok, Err, ◌==◌, refl, ap, sym, subst, ◌∙◌}
use Rattle.m36_desc.specs.Fields.{SdwFields, DbrFields}
use Rattle.m36_desc.specs.Access.{unless_violation, first_violation, ordered_rows, transfer_rows, call_rows}
use Rattle.m36_model.specs.Fields.{AtFields}
use Rattle.m36_model.specs.Registers.{RegsFields}
use Rattle.m36_model.specs.Act.{Transfer, Call, Locate, Put, Request}
use Rattle.m36_model.specs.Store.{Spot, serve, spots_of_request, spots_of, bound_only, is_within_bound, refusing_violation, touches}
use Rattle.m36_model.specs.Core.{core_store}
use Rattle.m36_model.specs.Place.{core_sdw}
use Rattle.m36_model.specs.declared.outcome.Fault.{Fault}
use Rattle.m36_model.specs.declared.outcome.Refusal.{Refusal}
use Rattle.m36_model.specs.declared.place.Reference.{Reference}
use Rattle.m36_walk.specs.ReferenceResult.{ReferenceResult, reference_result}
use Rattle.m36_walk.specs.Served.{midstep_with, request, served_with_result}
use Rattle.m36_walk.proofs.Serving.{core_after, served_as}

untouched : (core : List ℕ) (dbr : DbrFields) (q : Request) (r : Result ReferenceResult Fault) → touches q.kind ≡ false → core_after core dbr q r ≡ core
untouched core dbr q (Ok r) e = rw e refl
untouched core dbr q (Err f) e = refl

abbrev pub AskedBy : (SdwFields → Option ℕ) → (DbrFields → SdwFields → Result (List Spot) (ℕ × Refusal)) → List ℕ → DbrFields → AtFields → Result ReferenceResult Fault → Type 0
AskedBy R P core dbr at r = reference_result (λ d. unless_violation tt (R d)) (P dbr) (core_sdw core dbr at.seg) at ≡ r

abbrev pub target_places : AtFields → DbrFields → SdwFields → Result (List Spot) (ℕ × Refusal)
target_places at dbr d = bound_only (is_within_bound d at.word) at.word

abbrev pub word_places : List ℕ → AtFields → DbrFields → SdwFields → Result (List Spot) (ℕ × Refusal)
word_places core at dbr d = spots_of core_store core dbr d at.seg at.word 1

module _ (g : RegsFields) (dbr : DbrFields) (e : g.dbr ≡ dbr) (core : List ℕ) (at : AtFields) (r : Result ReferenceResult Fault) (claims : List Spot) (refs : List Reference) (puts : List Put) where
  asked : (q : Request) (R : SdwFields → Option ℕ) (P : SdwFields → Result (List Spot) (ℕ × Refusal)) → touches q.kind ≡ false → ((d : SdwFields) → refusing_violation q.kind d q.at.ring g.ppr.prr (q.at.seg == g.ppr.psr) q.at.word ≡ R d) → ((d : SdwFields) → spots_of_request core_store core g.dbr d q ≡ P d)
      → reference_result (λ d. unless_violation tt (R d)) P (core_sdw core g.dbr q.at.seg) q.at ≡ r → serve core_store g (midstep_with core claims refs) q ≡ served_with_result q core claims refs r
  asked q R P t k f h =
      served_as g core claims refs q R P r k f h ∙ ap (λ c. served_with_result q c claims refs r) (untouched core g.dbr q r t)

  pub transfer_served : (prr : ℕ) → g.ppr.prr ≡ prr → AskedBy (λ d. first_violation (transfer_rows d at.ring prr)) (target_places at) core dbr at r
      → serve core_store g (midstep_with core claims refs) (request Transfer at 1 puts) ≡ served_with_result (request Transfer at 1 puts) core claims refs r
  unfolding refusing_violation spots_of_request
  transfer_served prr k h =
      asked (request Transfer at 1 puts) (λ d. first_violation (transfer_rows d at.ring g.ppr.prr)) (target_places at g.dbr) refl (λ d. refl) (λ d. refl)
      (subst (λ (p : ℕ). AskedBy (λ d. first_violation (transfer_rows d at.ring p)) (target_places at) core g.dbr at r) (sym k) (subst (λ (b : DbrFields). AskedBy (λ d. first_violation (transfer_rows d at.ring prr)) (target_places at) core b at r) (sym e) h))

  pub call_served : (psr prr : ℕ) → g.ppr.psr ≡ psr → g.ppr.prr ≡ prr → AskedBy (λ d. first_violation (call_rows d at.ring prr (at.seg == psr) at.word)) (target_places at) core dbr at r
      → serve core_store g (midstep_with core claims refs) (request Call at 1 puts) ≡ served_with_result (request Call at 1 puts) core claims refs r
  unfolding refusing_violation spots_of_request
  call_served psr prr j k h =
      asked (request Call at 1 puts) (λ d. first_violation (call_rows d at.ring g.ppr.prr (at.seg == g.ppr.psr) at.word)) (target_places at g.dbr) refl (λ d. refl) (λ d. refl)
      (subst (λ (p : ℕ). AskedBy (λ d. first_violation (call_rows d at.ring g.ppr.prr (at.seg == p) at.word)) (target_places at) core g.dbr at r) (sym j)
      (subst (λ (p : ℕ). AskedBy (λ d. first_violation (call_rows d at.ring p (at.seg == psr) at.word)) (target_places at) core g.dbr at r) (sym k)
      (subst (λ (b : DbrFields). AskedBy (λ d. first_violation (call_rows d at.ring prr (at.seg == psr) at.word)) (target_places at) core b at r) (sym e) h)))

  pub locate_served : AskedBy (λ d. first_violation (ordered_rows d [])) (word_places core at) core dbr at r
      → serve core_store g (midstep_with core claims refs) (request Locate at 1 puts) ≡ served_with_result (request Locate at 1 puts) core claims refs r
  unfolding refusing_violation spots_of_request
  locate_served h =
      asked (request Locate at 1 puts) (λ d. first_violation (ordered_rows d [])) (word_places core at g.dbr) refl (λ d. refl) (λ d. refl)
      (subst (λ (b : DbrFields). AskedBy (λ d. first_violation (ordered_rows d [])) (word_places core at) core b at r) (sym e) h)

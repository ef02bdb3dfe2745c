-- A reference to core is served by its descriptor, its rights and its places, in the order in which
-- the walk checks them.
use Rattle.std.proofs.Common.{ℕ, ◌≡◌, List, Option, Some, None, Result, Ok, Err, ◌==◌, refl, ap, sym, ◌∙◌}
use Rattle.m36_desc.specs.Fields.{SdwFields, DbrFields}
use Rattle.m36_desc.specs.Access.{unless_violation}
use Rattle.m36_desc.specs.declared.access.Acv.{Acv}
use Rattle.m36_model.specs.Fields.{AtFields}
use Rattle.m36_model.specs.Registers.{RegsFields}
use Rattle.m36_model.specs.Act.{Request}
use Rattle.m36_model.specs.Store.{Spot, ServeResult, serve, serve_sdw, serve_rights, serve_places, spots_of_request, refusing_violation, after_marks}
use Rattle.m36_model.specs.Core.{core_store}
use Rattle.m36_model.specs.Place.{core_sdw}
use Rattle.m36_model.specs.declared.outcome.Fault.{Fault}
use Rattle.m36_model.specs.declared.outcome.Refusal.{Refusal}
use Rattle.m36_model.specs.declared.place.Reference.{Reference}
use Rattle.m36_walk.specs.ReferenceResult.{ReferenceResult, refusal_as_fault, violation_as_fault, reference_result, result_after_descriptor, result_after_rights, result_with_places}
use Rattle.m36_walk.specs.Runs.{places_as_fault}
use Rattle.m36_walk.specs.Served.{midstep_with, served_with_result}

-- core after a reference
abbrev pub core_after : List ℕ → DbrFields → Request → Result ReferenceResult Fault → List ℕ
core_after core dbr q (Ok r) = after_marks core_store core dbr q
core_after core dbr q (Err f) = core

module _ (g : RegsFields) (core : List ℕ) (claims : List Spot) (refs : List Reference) (q : Request) where
  abbrev answer : Result ReferenceResult Fault → ServeResult (List ℕ)
  answer r = served_with_result q (core_after core g.dbr q r) claims refs r

  by_places : (d : SdwFields) (r : Result (List Spot) (ℕ × Refusal)) → serve_places core_store g (midstep_with core claims refs) q d r ≡ answer (result_with_places d (places_as_fault q.at r))
  by_places d (Ok spots) = refl
  by_places d (Err e) = refl

  by_rights : (d : SdwFields) (o : Option ℕ) → serve_rights core_store g (midstep_with core claims refs) q d o ≡ answer (result_after_rights d (violation_as_fault q.at (unless_violation tt o)) (places_as_fault q.at (spots_of_request core_store core g.dbr d q)))
  by_rights d (Some acv) = refl
  by_rights d None = by_places d (spots_of_request core_store core g.dbr d q)

  abbrev rights : SdwFields → Option ℕ
  rights d = refusing_violation q.kind d q.at.ring g.ppr.prr (q.at.seg == g.ppr.psr) q.at.word

  by_sdw : (s : Result SdwFields Refusal) → serve_sdw core_store g (midstep_with core claims refs) q s ≡ answer (result_after_descriptor (λ d. unless_violation tt (rights d)) (λ d. spots_of_request core_store core g.dbr d q) q.at (refusal_as_fault q.at s))
  by_sdw (Err why) = refl
  by_sdw (Ok d) = by_rights d (rights d)

  pub served : serve core_store g (midstep_with core claims refs) q ≡ answer (reference_result (λ d. unless_violation tt (rights d)) (λ d. spots_of_request core_store core g.dbr d q) (core_sdw core g.dbr q.at.seg) q.at)
  unfolding serve reference_result
  served = by_sdw (core_sdw core g.dbr q.at.seg)

  -- The rights and the places may be replaced by equal ones.
  pub served_as : (R : SdwFields → Option ℕ) (P : SdwFields → Result (List Spot) (ℕ × Refusal)) (r : Result ReferenceResult Fault) → ((d : SdwFields) → rights d ≡ R d) → ((d : SdwFields) → spots_of_request core_store core g.dbr d q ≡ P d)
      → reference_result (λ d. unless_violation tt (R d)) P (core_sdw core g.dbr q.at.seg) q.at ≡ r
      → serve core_store g (midstep_with core claims refs) q ≡ answer r
  served_as R P r e f h =
      let same : reference_result (λ d. unless_violation tt (rights d)) (λ d. spots_of_request core_store core g.dbr d q) (core_sdw core g.dbr q.at.seg) q.at ≡ r = (λ i. reference_result (λ d. unless_violation tt (e d i)) (λ d. f d i) (core_sdw core g.dbr q.at.seg) q.at) ∙ h in
      served ∙ ap answer same

-- An answered reference has found the descriptor of its segment.
reached_places_sdw : (d : SdwFields) (p : Result (List Spot) Fault) (r : ReferenceResult) → result_with_places d p ≡ Ok r → r.sdw ≡ d
reached_places_sdw d (Ok spots) r e = cc
reached_places_sdw d (Err f) r e = cc

reached_rights_sdw : (d : SdwFields) (u : Result Unit Fault) (p : Result (List Spot) Fault) (r : ReferenceResult) → result_after_rights d u p ≡ Ok r → r.sdw ≡ d
reached_rights_sdw d (Ok u) p r e = reached_places_sdw d p r e
reached_rights_sdw d (Err f) p r e = cc

reached_by : (R : SdwFields → Result Unit Acv) (P : SdwFields → Result (List Spot) (ℕ × Refusal)) (s : Result SdwFields Refusal) (at : AtFields) (r : ReferenceResult) → result_after_descriptor R P at (refusal_as_fault at s) ≡ Ok r → s ≡ Ok r.sdw
reached_by R P (Ok d) at r e = ap Ok (sym (reached_rights_sdw d (violation_as_fault at (R d)) (places_as_fault at (P d)) r e))
reached_by R P (Err why) at r e = cc

pub reached_is : (R : SdwFields → Result Unit Acv) (P : SdwFields → Result (List Spot) (ℕ × Refusal)) (s : Result SdwFields Refusal) (at : AtFields) (r : ReferenceResult) → reference_result R P s at ≡ Ok r → s ≡ Ok r.sdw
unfolding reference_result
reached_is R P s at r e = reached_by R P s at r e

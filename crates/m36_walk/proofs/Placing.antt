-- The core address of a word without access checks is the one that a request for it returns.
use Rattle.std.proofs.Common.{ℕ, ◌≡◌, Bool, true, false, not, List, [], ◌∷◌, Result, Ok, Err, ap}
use Rattle.m36_desc.specs.Fields.{SdwFields, DbrFields}
use Rattle.m36_desc.specs.Access.{unless_violation, first_violation, has_ordered_brackets, ordered_rows}
use Rattle.m36_model.specs.Fields.{AtFields}
use Rattle.m36_model.specs.Core.{core_store}
use Rattle.m36_model.specs.Place.{core_sdw, core_spot}
use Rattle.m36_model.specs.Store.{Spot, Core_word, is_within_bound, spots_from, place_within, when_ordered, place_by, place, spots_of, violation, fault_by}
use Rattle.m36_model.specs.declared.outcome.Fault.{Fault}
use Rattle.m36_model.specs.declared.outcome.Refusal.{Refusal}
use Rattle.m36_walk.specs.ReferenceResult.{ReferenceResult, refusal_as_fault, violation_as_fault, reference_result, result_after_descriptor, result_after_rights, result_with_places}
use Rattle.m36_walk.specs.Runs.{run_from, places_as_fault}
use Rattle.m36_walk.specs.Served.{result_at_place, ok_map}

module _ (core : List ℕ) (dbr : DbrFields) (at : AtFields) (d' : SdwFields) where
  abbrev Placed : Result Spot Fault → Result ℕ Fault → Type 0
  Placed p result = p ≡ ok_map Core_word result

  refused : (f : Fault) (result : Result ℕ Fault) → Err f ≡ result_at_place d' 1 result → Placed (Err f) result
  refused f (Ok a) e = cc
  refused f (Err x) e = cc

  spots_in : Result ReferenceResult Fault → List Spot
  spots_in (Ok r) = r.spots
  spots_in (Err f) = []

  answered : (d : SdwFields) (p : Spot) (result : Result ℕ Fault) → Ok (record { sdw = d; spots = p ∷ [] }) ≡ result_at_place d' 1 result → Placed (Ok p) result
  unfolding run_from spots_in
  answered d p (Ok a) e =
      let same : p ∷ [] ≡ Core_word a ∷ [] = ap spots_in e in
      let one : p ≡ Core_word a = cc in
      ap Ok one
  answered d p (Err f) e = cc

  by_spot : (d : SdwFields) (s : Result Spot Refusal) (result : Result ℕ Fault) → result_with_places d (places_as_fault at (spots_from true at.word s (Ok []))) ≡ result_at_place d' 1 result → Placed (refusal_as_fault at s) result
  by_spot d (Ok p) result e = answered d p result e
  by_spot d (Err why) result e = refused (fault_by why at) result e

  by_bound : (d : SdwFields) (b : Bool) (s : Result Spot Refusal) (result : Result ℕ Fault) → result_with_places d (places_as_fault at (spots_from b at.word s (Ok []))) ≡ result_at_place d' 1 result → Placed (refusal_as_fault at (place_within b s)) result
  by_bound d true s result e = by_spot d s result e
  by_bound d false s result e = refused (fault_by (violation 15) at) result e

  by_order : (d : SdwFields) (o b : Bool) (s : Result Spot Refusal) (result : Result ℕ Fault) → result_after_rights d (violation_as_fault at (unless_violation tt (first_violation ((not o, 0) ∷ [])))) (places_as_fault at (spots_from b at.word s (Ok []))) ≡ result_at_place d' 1 result
      → Placed (refusal_as_fault at (when_ordered o (place_within b s))) result
  by_order d true b s result e = by_bound d b s result e
  by_order d false b s result e = refused (fault_by (violation 0) at) result e

  by_descriptor : (s : Result SdwFields Refusal) (result : Result ℕ Fault) → result_after_descriptor (λ d. unless_violation tt (first_violation (ordered_rows d []))) (λ d. spots_of core_store core dbr d at.seg at.word 1) at (refusal_as_fault at s) ≡ result_at_place d' 1 result
      → Placed (refusal_as_fault at (place_by s (λ d. core_spot core dbr d at.seg at.word) at.word)) result
  unfolding spots_of
  by_descriptor (Ok d) result e = by_order d (has_ordered_brackets d) (is_within_bound d at.word) (core_spot core dbr d at.seg at.word) result e
  by_descriptor (Err why) result e = refused (fault_by why at) result e

  pub place_told : (result : Result ℕ Fault) → reference_result (λ d. unless_violation tt (first_violation (ordered_rows d []))) (λ d. spots_of core_store core dbr d at.seg at.word 1) (core_sdw core dbr at.seg) at ≡ result_at_place d' 1 result
      → refusal_as_fault at (place core_store core dbr at.seg at.word) ≡ ok_map Core_word result
  unfolding reference_result place
  place_told result e = by_descriptor (core_sdw core dbr at.seg) result e

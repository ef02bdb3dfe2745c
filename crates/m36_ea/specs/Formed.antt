-- A formed address: the result of the program of an address chain over core.
use Rattle.std.specs.Prelude.{ℕ, ◌≡◌, ◌<◌, List, [], ◌∷◌, ◌++◌, Option, Some, None, Result, Ok, Err}
use Rattle.m36_inst.specs.Fields.{InstFields}
use Rattle.m36_model.specs.Fields.{FinalFields}
use Rattle.m36_model.specs.Registers.{RegsFields}
use Rattle.m36_model.specs.Store.{Midstep, ProgramResult, run}
use Rattle.m36_model.specs.Core.{core_store}
use Rattle.m36_model.specs.Chain.{ChainEnd, chain_end_fields, claimed_by}
use Rattle.m36_model.specs.Step.{formation}
use Rattle.m36_model.specs.declared.effects.Formed.{Formed}
use Rattle.m36_model.specs.declared.effects.Tally.{Tally}
use Rattle.m36_model.specs.declared.outcome.Halt.{Halt}
use Rattle.m36_model.specs.declared.place.Reference.{Reference}
use Rattle.m36_model.specs.declared.place.Kind.TheVariants as reference
use Rattle.m36_walk.specs.Served.{midstep_with}

-- the program that forms the address of an instruction, run over core, in a step that has
-- completed these references and claimed no write
abbrev pub run_formation :
    RegsFields → InstFields → List ℕ → List Reference
    → ProgramResult (Result ChainEnd Halt) (List ℕ)
run_formation g i core refs = run core_store g (formation g i) (midstep_with core [] refs)

-- the state of a step that has claimed only the tally word of its address, if there is one
abbrev pub midstep_after_address : List ℕ → Formed → List Reference → Midstep (List ℕ)
midstep_after_address core f refs = midstep_with core (claimed_by f.tally f.place) refs

-- The end of the run of `run_formation`, by the result of the code: with the address, the place of
-- the tally word, if there is one, as the step's first claim, and with this core and these
-- references.
abbrev pub formation_end :
    List ℕ → List Reference → Result Formed Halt → ProgramResult (Result ChainEnd Halt) (List ℕ)
formation_end core refs (Ok f) =
    record { value = Ok (chain_end_fields f); mid = midstep_after_address core f refs }
formation_end core refs (Err h) = record { value = Err h; mid = midstep_with core [] refs }

-- an address without a tally word
abbrev pub without_tally : FinalFields → Formed
without_tally last = record { last = last; tally = None; place = 0 }

-- `r` is the last of the references
abbrev pub EndsIn : List Reference → Reference → Type 0
EndsIn refs r = (before : List Reference) × (refs ≡ before ++ r ∷ [])

-- The tally word has a place in core, and its Write is the last reference. Without a tally word
-- the place is 0.
abbrev pub HasTally : Option Tally → ℕ → ℕ → List Reference → Type 0
HasTally None place size refs = place ≡ 0
HasTally (Some t) place size refs =
    (place < size) × EndsIn refs (record { kind = reference.Write; at = t.at; count = 1 })

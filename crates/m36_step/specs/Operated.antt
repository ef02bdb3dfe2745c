-- An operation: the result of the program of an operand and its effect over core, and the words
-- that are still to be written.
use Rattle.std.specs.Prelude.{ℕ, ◌<◌, ◌^◌, List, ◌++◌, length, Option, Some, None, Result, Ok, Err}
use Rattle.m36_inst.specs.declared.effect.Effect.{Effect}
use Rattle.m36_model.specs.Act.{Part, Whole, Left, Right, Put}
use Rattle.m36_model.specs.Chain.{chain_end_fields, pending_of, claimed_by}
use Rattle.m36_model.specs.Core.{core_store}
use Rattle.m36_model.specs.Registers.{RegsFields}
use Rattle.m36_model.specs.Results.{words_of_held}
use Rattle.m36_model.specs.Step.{Performed, Operation, puts_with, operate}
use Rattle.m36_model.specs.Store.{Spot, ProgramResult, run}
use Rattle.m36_model.specs.WordsPut.{IsHalf, FitsHalf}
use Rattle.m36_model.specs.declared.effects.Formed.{Formed}
use Rattle.m36_model.specs.declared.effects.Held.{Held}
use Rattle.m36_model.specs.declared.effects.Tally.{Tally}
use Rattle.m36_model.specs.declared.outcome.Halt.{Halt}
use Rattle.m36_model.specs.declared.place.Reference.{Reference}
use Rattle.m36_walk.specs.Runs.{run_from, IsInCore}
use Rattle.m36_walk.specs.Served.{midstep_with}
use Rattle.m36_ea.specs.Formed.{midstep_after_address}
use Rattle.m36_step.specs.declared.operated.Part as code
use Rattle.m36_step.specs.declared.operated.Part.TheVariants as part
use Rattle.m36_step.specs.declared.operated.Operated.{Operated}

-- the part of a word, in the terms of the definitions
abbrev pub part_of : code.Part → Part
part_of part.Whole = Whole
part_of part.Left = Left
part_of part.Right = Right

-- the claimed places: that of the tally word, and then `count` words from `place` on
abbrev pub claims_with : Formed → ℕ → ℕ → List Spot
claims_with f place count = claimed_by f.tally f.place ++ run_from place count

-- the places to write: that of the tally word first, and then those of the words that the effect
-- gives
abbrev pub claims_of : Formed → Held → Operated → List Spot
claims_of f put o = claims_with f o.place (length (words_of_held put))

-- the values to write at the places of `claims_of`
abbrev pub puts_of : Formed → Held → Operated → List Put
puts_of f put o =
    puts_with (pending_of f.tally) (part_of o.part) (length (claimed_by f.tally f.place))
    (words_of_held put)

-- the result of the operation: the registers after the effect, the values to write, and whether
-- overflow has to be reported
abbrev pub performed_by : Formed → RegsFields → Held → Operated → Performed
performed_by f g put o = record { regs = g; puts = puts_of f put o; overflow = o.overflow }

-- the program of an operation, run over core from the state in which the address is formed
abbrev pub run_after_address :
    RegsFields → Operation → Formed → List ℕ → List Reference
    → ProgramResult (Result Performed Halt) (List ℕ)
run_after_address g program f core refs =
    run core_store g program (midstep_after_address core f refs)

-- the run of the operation of an instruction, from the state in which its address is formed
abbrev pub run_of_operation :
    Effect → ℕ → RegsFields → Formed → List ℕ → List Reference
    → ProgramResult (Result Performed Halt) (List ℕ)
run_of_operation e n g f core refs =
    run_after_address g (operate e n g (chain_end_fields f)) f core refs

-- The end of the run of `run_of_operation`, by the result of the code, with the registers after it
-- and the words to write. If the operation is refused, it has claimed nothing more.
abbrev pub operated_end :
    List ℕ → List Reference → Formed → RegsFields → Held → Result Operated Halt
    → ProgramResult (Result Performed Halt) (List ℕ)
operated_end core refs f g put (Ok o) =
    record { value = Ok (performed_by f g put o); mid = midstep_with core (claims_of f put o) refs }
operated_end core refs f g put (Err h) =
    record { value = Err h; mid = midstep_after_address core f refs }

-- the tally word, if there is one, has a place in core
abbrev pub TallyIsInCore : Option Tally → ℕ → ℕ → Type 0
TallyIsInCore None place size = Unit {0}
TallyIsInCore (Some t) place size = place < size

-- A part that is not the whole word takes one word that is a half.
abbrev pub WordsFitPart : code.Part → List ℕ → Type 0
WordsFitPart part.Whole words = Unit {0}
WordsFitPart part.Left words = IsHalf words
WordsFitPart part.Right words = IsHalf words

-- a half has 18 bits; for a whole word nothing is required
abbrev pub ValueFitsPart : code.Part → ℕ → Type 0
ValueFitsPart part.Whole w = Unit {0}
ValueFitsPart part.Left w = FitsHalf w
ValueFitsPart part.Right w = FitsHalf w

-- the words to write have places in a core of this size
pub record PlacesAreInCore (size : ℕ) (f : Formed) (put : Held) (o : Operated) : Type 0 where
  pub tally : TallyIsInCore f.tally f.place size
  pub run : IsInCore size o.place (length (words_of_held put))
  pub place : o.place < 2 ^ 24
  pub part : WordsFitPart o.part (words_of_held put)

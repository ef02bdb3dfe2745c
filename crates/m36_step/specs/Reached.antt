-- An operand that was reached, and how the program of an operation continues from it.
use Rattle.std.specs.Prelude.{ℕ, ◌≡◌, List, length, Result, Ok, Err}
use Rattle.m36_inst.specs.Operands.{takes_direct}
use Rattle.m36_inst.specs.declared.effect.Effect.{Effect}
use Rattle.m36_inst.specs.declared.operand.Operand.{Operand}
use Rattle.m36_inst.specs.declared.operand.Operand.TheVariants as kind
use Rattle.m36_model.specs.Act.{Part, Whole, Left, Right}
use Rattle.m36_model.specs.Chain.{chain_end_fields, claimed_by}
use Rattle.m36_model.specs.Core.{core_store}
use Rattle.m36_model.specs.Registers.{RegsFields}
use Rattle.m36_model.specs.Results.{OperandFields, operand_fields}
use Rattle.m36_model.specs.Step.{Performed, Operation, perform, direct_operand}
use Rattle.m36_model.specs.WordsPut.{words_written, part_written}
use Rattle.m36_model.specs.Store.{ProgramResult, run}
use Rattle.m36_model.specs.declared.effects.Formed.{Formed}
use Rattle.m36_model.specs.declared.effects.Operand36.{Operand36}
use Rattle.m36_model.specs.declared.outcome.Fault.{Fault}
use Rattle.m36_model.specs.declared.outcome.Halt.{Halt}
use Rattle.m36_model.specs.declared.outcome.Halt.TheVariants as halt
use Rattle.m36_model.specs.declared.place.Reference.{Reference}
use Rattle.m36_walk.specs.Served.{midstep_with}
use Rattle.m36_ea.specs.Formed.{midstep_after_address}
use Rattle.m36_step.specs.Operated.{part_of, run_after_address, claims_with}
use Rattle.m36_step.specs.declared.operated.Part as code
use Rattle.m36_step.specs.declared.operated.Part.TheVariants as part
use Rattle.m36_step.specs.declared.operated.Reached.{Reached}

-- the operand is refused, and the program ends
abbrev pub refused_end :
    Formed → List ℕ → List Reference → Fault → ProgramResult (Result Performed Halt) (List ℕ)
refused_end f core refs fault =
    record { value = Err (halt.Fault fault); mid = midstep_after_address core f refs }

-- The end of the run after an operand was reached of which nothing will be written: the effect
-- follows. If the operand was refused, the program ends.
abbrev pub unwritten_end :
    Effect → ℕ → RegsFields → Formed → List ℕ → List Reference → Operand36 → Result Reached Fault
    → ProgramResult (Result Performed Halt) (List ℕ)
unwritten_end e n g f core refs o (Ok u) =
    run_after_address g (perform e n g (chain_end_fields f) (part_of u.part) 0 (operand_fields o)) f
    core
    refs
unwritten_end e n g f core refs o (Err fault) = refused_end f core refs fault

-- As `unwritten_end`, if `count` words will be written: their places are claimed after that of the
-- tally word.
abbrev pub written_end :
    Effect → ℕ → RegsFields → Formed → ℕ → List ℕ → List Reference → Operand36
    → Result Reached Fault → ProgramResult (Result Performed Halt) (List ℕ)
written_end e n g f count core refs o (Ok u) =
    run core_store g
    (perform e n g (chain_end_fields f) (part_of u.part) (length (claimed_by f.tally f.place))
    (operand_fields o))
    (midstep_with core (claims_with f u.place count) refs)
written_end e n g f count core refs o (Err fault) = refused_end f core refs fault

-- `written_end` or `unwritten_end`, by the kind of the operand
abbrev pub reached_end :
    Effect → ℕ → RegsFields → Formed → Operand → List ℕ → List Reference → Operand36
    → Result Reached Fault → ProgramResult (Result Performed Halt) (List ℕ)
reached_end e n g f kind.W core refs o u =
    written_end e n g f (words_written kind.W) core refs o u
reached_end e n g f kind.W2 core refs o u =
    written_end e n g f (words_written kind.W2) core refs o u
reached_end e n g f kind.W16 core refs o u =
    written_end e n g f (words_written kind.W16) core refs o u
reached_end e n g f kind.Wl core refs o u =
    written_end e n g f (words_written kind.Wl) core refs o u
reached_end e n g f kind.Wr core refs o u =
    written_end e n g f (words_written kind.Wr) core refs o u
reached_end e n g f kind.Rw core refs o u =
    written_end e n g f (words_written kind.Rw) core refs o u
reached_end e n g f kind.Rwl core refs o u =
    written_end e n g f (words_written kind.Rwl) core refs o u
reached_end e n g f _ core refs o u = unwritten_end e n g f core refs o u

-- A program that references its operand, and will write nothing, continues as the code does, for
-- every instruction.
abbrev pub Reads :
    (Effect → ℕ → Operation) → RegsFields → Formed → List ℕ → List Reference → List ℕ
    → List Reference → Operand36 → Result Reached Fault → Type 0
Reads program g f core refs core' refs' o u =
    (e : Effect) (n : ℕ)
    → run_after_address g (program e n) f core refs ≡ unwritten_end e n g f core' refs' o u

-- As `Reads`, for a program that will write `count` words.
abbrev pub Writes :
    (Effect → ℕ → Operation) → RegsFields → Formed → ℕ → List ℕ → List Reference → List ℕ
    → List Reference → Operand36 → Result Reached Fault → Type 0
Writes program g f count core refs core' refs' o u =
    (e : Effect) (n : ℕ)
    → run_after_address g (program e n) f core refs ≡ written_end e n g f count core' refs' o u

-- the code's part for one of the definitions
abbrev pub code_part : Part → code.Part
code_part Whole = part.Whole
code_part Left = part.Left
code_part Right = part.Right

-- the code's part for what an operand kind writes
abbrev pub part_for : Operand → code.Part
part_for operand = code_part (part_written operand)

-- the operand that the effect gets, or the fault
abbrev pub operand_or_fault : Operand36 → Result Reached Fault → Result OperandFields Fault
operand_or_fault o (Ok u) = Ok (operand_fields o)
operand_or_fault o (Err fault) = Err fault

-- The code gives a direct operand to the effect as the definitions do.
abbrev pub IsDirectOperand : Effect → RegsFields → ℕ → Operand36 → Result Reached Fault → Type 0
IsDirectOperand e g w o u = operand_or_fault o u ≡ direct_operand e g w (takes_direct e)

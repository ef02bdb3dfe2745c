-- The trace line of a step: its fields in order, separated by one space.
use Rattle.std.specs.Prelude.{ℕ, Bool, List, [], ◌∷◌, ◌++◌, Option, Some, None, codes}
use Rattle.std.specs.Prelude.{if◌then◌else◌, ◌==◌}
use Rattle.m36_text.specs.Digits.{octal_text, decimal_text, segment_digits, word_text, half_text}
use Rattle.m36_text.specs.Lines.{joined_by_spaces}
use Rattle.m36_model.specs.Faults.{access_violation}
use Rattle.m36_model.specs.Fields.{AtFields, FinalFields, PprFields}
use Rattle.m36_model.specs.Registers.{RegsFields}
use Rattle.m36_model.specs.declared.registers.Ind.{Ind}
use Rattle.m36_model.specs.declared.outcome.Fault.{Fault}
use Rattle.m36_model.specs.declared.outcome.Stop.{Stop}
use Rattle.m36_model.specs.declared.outcome.Stop.TheVariants.{Dis, Operation, Tag}
use Rattle.m36_model.specs.declared.outcome.Outcome.{Outcome}
use Rattle.m36_model.specs.declared.outcome.Outcome.TheVariants.{Next, Faulted, Stopped}
use Rattle.m36_model.specs.declared.record.StepRecord.{StepRecord}
use Rattle.m36_model.specs.declared.record.Shown.{Shown}

-- a segment number, a bar and a word number
abbrev pub segment_word_text : ℕ → ℕ → List ℕ
segment_word_text seg word = octal_text segment_digits seg ++ codes "|" ++ half_text word

-- the instruction's word, or a dash if the fetch was refused
abbrev pub instruction_text : Option ℕ → List ℕ
instruction_text (Some word) = word_text word
instruction_text None = codes "-"

-- the ring, a colon and the address
abbrev pub address_text : AtFields → List ℕ
address_text at = octal_text 1 at.ring ++ codes ":" ++ segment_word_text at.seg at.word

-- an address, or an equals sign and the direct operand
abbrev pub operand_text : AtFields → Option ℕ → List ℕ
operand_text at (Some word) = codes "=" ++ word_text word
operand_text at None = address_text at

-- the final address, or a dash if no address was formed
abbrev pub final_text : Option FinalFields → List ℕ
final_text (Some final) = operand_text final.at final.direct
final_text None = codes "-"

-- an indicator's letter if it is on, and a point if it is off
abbrev pub letter : List ℕ → Bool → List ℕ
letter name on = if on then name else codes "."

-- zero, negative, carry, overflow, overflow mask, tally runout
abbrev pub indicators_text : Ind → List ℕ
indicators_text i =
    letter (codes "z") i.zero ++ letter (codes "n") i.negative ++ letter (codes "c") i.carry
    ++ letter (codes "o") i.overflow ++ letter (codes "m") i.mask ++ letter (codes "t") i.tally

-- a fault with its number; an access violation also with its own number
abbrev pub fault_text : Fault → List ℕ
fault_text f =
    if f.number == access_violation
    then codes "fault " ++ decimal_text f.number ++ codes "." ++ decimal_text f.acv
    else codes "fault " ++ decimal_text f.number

-- the name of a stop
abbrev pub stop_text : Stop → List ℕ
stop_text Dis = codes "dis"
stop_text Operation = codes "stop operation"
stop_text Tag = codes "stop tag"

-- the text of an outcome, with `next` as the text of Next
abbrev pub outcome_with : List ℕ → Outcome → List ℕ
outcome_with next Next = next
outcome_with next (Faulted f) = fault_text f
outcome_with next (Stopped s) = stop_text s

-- the text of an outcome
abbrev pub outcome_text : Outcome → List ℕ
outcome_text outcome = outcome_with (codes "next") outcome

-- The fields of step n: its number, the place of the instruction, its word, the final address, A,
-- Q and the indicators after the step, and the outcome.
abbrev pub fields_of_values : ℕ → PprFields → Option ℕ → Option FinalFields → Outcome → RegsFields
    → List (List ℕ)
fields_of_values n ppr word at outcome after =
    decimal_text n
    ∷ octal_text 1 ppr.prr
    ∷ segment_word_text ppr.psr ppr.ic
    ∷ instruction_text word
    ∷ final_text at
    ∷ word_text after.a
    ∷ word_text after.q
    ∷ indicators_text after.ind
    ∷ outcome_text outcome
    ∷ []

-- the fields of step n, from its record
abbrev pub fields : ℕ → StepRecord → List (List ℕ)
fields n r = fields_of_values n r.ppr r.word r.at r.outcome r.after

-- the trace line of step n, without its line feed
unfoldable pub line_of : ℕ → StepRecord → List ℕ
line_of n r = joined_by_spaces (fields n r)

-- the line of step n, from what a trace line shows and the registers after the step
unfoldable pub shown_line : ℕ → Shown → RegsFields → List ℕ
shown_line n shown after =
    joined_by_spaces (fields_of_values n shown.ppr shown.word shown.at shown.outcome after)

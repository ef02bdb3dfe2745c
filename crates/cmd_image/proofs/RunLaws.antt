-- A run, step by step: what is left of its output, and its last outcome.
use Rattle.std.proofs.Common.{◌≡◌, ℕ, suc, ◌+◌, Bool, true, false, List, [], ◌∷◌, ◌++◌, map, length, refl, ap}
use Rattle.std.proofs.Common.{◌∙◌, arith, add-zero}
use Rattle.m36_text.specs.Lines.{as_line}
use Rattle.m36_model.specs.Store.{State}
use Rattle.m36_model.specs.Core.{core_store}
use Rattle.m36_model.specs.Run.{RunStep, run_steps, is_next, only_if}
use Rattle.m36_model.specs.declared.outcome.Outcome.TheVariants.{Next}
use Rattle.m36_model.specs.declared.record.StepRecord.{StepRecord}
use Rattle.m36_trace.specs.EndLine.{end_line_of}
use Rattle.m36_trace.specs.TraceLine.{line_of}
use Rattle.cmd_image.specs.Machine.{step_record, after}
use Rattle.cmd_image.specs.Run.{run, last_outcome}
use Rattle.cmd_image.specs.Output.{trace_pieces, pieces_from}

-- a run of at least one step
told_only_if :
    (b : Bool) (steps : List (RunStep (List ℕ)))
    → map (λ v. v.told) (only_if b steps) ≡ only_if b (map (λ v. v.told) steps)
told_only_if true steps = refl
told_only_if false steps = refl

pub run_more :
    (left : ℕ) (s : State (List ℕ)) → run (suc left) s ≡ step_record s ∷ only_if (is_next (step_record s).outcome) (run left (after s))
unfolding run run_steps
run_more left s =
    ap (λ steps. step_record s ∷ steps) (told_only_if (is_next (step_record s).outcome) (run_steps core_store left (after s)))

pub run_none : (s : State (List ℕ)) → run 0 s ≡ []
unfolding run run_steps
run_none s = refl

-- The last outcome of some steps, if the first has the outcome Next.
pub last_after_next :
    (step : StepRecord) (steps : List StepRecord) → step.outcome ≡ Next
    → last_outcome (step ∷ steps) ≡ last_outcome steps
last_after_next step [] next = next
last_after_next step (other ∷ steps) next = refl

pub counted : (taken n : ℕ) → taken + suc n ≡ taken + 1 + n
counted taken n = omega arith

pub pieces_begin :
    (taken : ℕ) (step : StepRecord) (steps : List StepRecord)
    → pieces_from taken (step ∷ steps)
    ≡ as_line (line_of (taken + 1) step) ∷ (trace_pieces (taken + 1 + 1) steps ++ as_line (end_line_of (last_outcome (step ∷ steps)) (taken + length (step ∷ steps))) ∷ [])
unfolding trace_pieces
pieces_begin taken step steps = refl

pub pieces_next :
    (taken : ℕ) (step : StepRecord) (steps : List StepRecord)
    → step.outcome ≡ Next
    → pieces_from taken (step ∷ steps) ≡ as_line (line_of (taken + 1) step) ∷ pieces_from (taken + 1) steps
pieces_next taken step steps next =
    pieces_begin taken step steps
    ∙ ap (λ o. as_line (line_of (taken + 1) step) ∷ (trace_pieces (taken + 1 + 1) steps ++ as_line (end_line_of o (taken + length (step ∷ steps))) ∷ [])) (last_after_next step steps next)
    ∙ ap (λ n. as_line (line_of (taken + 1) step) ∷ (trace_pieces (taken + 1 + 1) steps ++ as_line (end_line_of (last_outcome steps) n) ∷ [])) (counted taken (length steps))

pub pieces_last :
    (taken : ℕ) (step : StepRecord)
    → pieces_from taken (step ∷ []) ≡ as_line (line_of (taken + 1) step) ∷ as_line (end_line_of step.outcome (taken + 1)) ∷ []
unfolding trace_pieces
pieces_last taken step = refl

pub pieces_none : (taken : ℕ) → pieces_from taken [] ≡ as_line (end_line_of Next taken) ∷ []
unfolding trace_pieces
pieces_none taken = ap (λ n. as_line (end_line_of Next n) ∷ []) (add-zero taken)

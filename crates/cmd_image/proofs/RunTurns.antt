-- The steps of a run are those among the turns of a machine.
use Rattle.std.proofs.Common.{◌≡◌, ℕ, zero, suc, List, [], ◌∷◌, Some, None, refl, sym, ap, ◌∙◌}
use Rattle.m36_model.specs.Store.{State}
use Rattle.m36_model.specs.declared.endings.End.{End}
use Rattle.m36_model.specs.declared.endings.End.TheVariants as end
use Rattle.m36_model.specs.declared.outcome.Outcome.{Outcome}
use Rattle.m36_model.specs.declared.outcome.Outcome.TheVariants.{Next, Faulted, Stopped}
use Rattle.m36_model.specs.declared.record.StepRecord.{StepRecord}
use Rattle.m36_step.specs.MachineTurn.{end_by_outcome, machine_turn, machine_after}
use Rattle.cmd_image.specs.Machine.{step_record, after}
use Rattle.cmd_image.specs.Run.{run}
use Rattle.cmd_image.specs.RunLaws.{steps_in_turns, RunsAreTurns}
use Rattle.cmd_image.proofs.RunLaws.{run_more, run_none}
use Rattle.cmd_image.proofs.RunLengths.{run_by}

no_turn : (s : State (List ℕ)) → steps_in_turns 0 (record { state = s; ended = None }) ≡ []
unfolding steps_in_turns
no_turn s = refl

-- a machine whose run has ended takes no step
none_made : (n : ℕ) (s : State (List ℕ)) (e : End) → steps_in_turns n (record { state = s; ended = Some e }) ≡ []
unfolding steps_in_turns machine_turn machine_after
none_made zero s e = refl
none_made (suc n) s e = none_made n s e

-- one whose run has not ended takes one
one_made :
    (n : ℕ) (s : State (List ℕ))
    → steps_in_turns (suc n) (record { state = s; ended = None })
    ≡ step_record s ∷ steps_in_turns n (record { state = after s; ended = end_by_outcome (step_record s).outcome })
unfolding steps_in_turns machine_turn machine_after
one_made n s = refl

made_by :
    (o : Outcome) (n : ℕ) (s : State (List ℕ))
    → steps_in_turns n (record { state = after s; ended = None }) ≡ run n (after s)
    → step_record s ∷ steps_in_turns n (record { state = after s; ended = end_by_outcome o }) ≡ run_by o n s
made_by Next n s rest = ap (λ (steps : List StepRecord). step_record s ∷ steps) rest
made_by (Faulted fault) n s rest = ap (λ (steps : List StepRecord). step_record s ∷ steps) (none_made n (after s) (end.Fault fault))
made_by (Stopped stop) n s rest = ap (λ (steps : List StepRecord). step_record s ∷ steps) (none_made n (after s) (end.Stop stop))

made : (n : ℕ) (s : State (List ℕ)) → steps_in_turns n (record { state = s; ended = None }) ≡ run n s
made zero s = no_turn s ∙ sym (run_none s)
made (suc n) s = one_made n s ∙ made_by (step_record s).outcome n s (made n (after s)) ∙ sym (run_more n s)

pub runs_are_turns : RunsAreTurns
runs_are_turns steps state = made steps state

-- What the result of a step of a run implies.
use Rattle.std.specs.Prelude.{ℕ, ◌≡◌, ◌++◌, false, List, [], ◌∷◌}
use Rattle.m36_text.specs.Lines.{as_line}
use Rattle.m36_model.specs.Store.{State}
use Rattle.m36_model.specs.Run.{is_next}
use Rattle.m36_model.specs.declared.outcome.Outcome.{Outcome}
use Rattle.m36_model.specs.declared.outcome.Outcome.TheVariants.{Next}
use Rattle.m36_trace.specs.TraceLine.{line_of}
use Rattle.m36_world.specs.Seen.{Seen}
use Rattle.m36_program.specs.Gathered.{Gathers, Loses}
use Rattle.cmd_image.specs.Machine.{step_record}
use Rattle.cmd_image.specs.declared.running.AfterStep.{AfterStep}
use Rattle.cmd_image.specs.declared.running.AfterStep.TheVariants as step

-- Step n had this outcome, and its line was added to the block.
pub record StepAdded (n : ℕ) (outcome : Outcome) (state : State (List ℕ))
    (block block' : List (List ℕ)) (old new : Seen) : Type 0 where
  pub outcome_is : (step_record state).outcome ≡ outcome
  pub added : Gathers block block' (as_line (line_of n (step_record state)) ∷ []) old new

-- As `StepAdded`, for a step that ends the run.
pub record LastStepAdded (n : ℕ) (outcome : Outcome) (state : State (List ℕ))
    (block block' : List (List ℕ)) (old new : Seen) : Type 0 where
  pub last : is_next outcome ≡ false
  pub stepped : StepAdded n outcome state block block' old new

-- What the result of step n implies. If the output failed, the lines of the block and of the step
-- were put up to there.
abbrev pub StepResult : AfterStep → ℕ → State (List ℕ) → List (List ℕ) → List (List ℕ)
    → Seen → Seen → Type 0
StepResult step.Next n state block block' old new = StepAdded n Next state block block' old new
StepResult (step.Ended outcome) n state block block' old new =
    LastStepAdded n outcome state block block' old new
StepResult step.WriteFailed n state block block' old new =
    Loses (block ++ as_line (line_of n (step_record state)) ∷ []) old new

-- A run of the machine.
use Rattle.std.specs.Prelude.{ℕ, List, [], ◌∷◌}
use Rattle.m36_model.specs.Store.{State}
use Rattle.m36_model.specs.Core.{core_store}
use Rattle.m36_model.specs.Run.{records_of_run}
use Rattle.m36_model.specs.declared.outcome.Outcome.{Outcome}
use Rattle.m36_model.specs.declared.outcome.Outcome.TheVariants.{Next}
use Rattle.m36_model.specs.declared.record.StepRecord.{StepRecord}

-- The records of at most `steps` steps, each from the state that the step before left. The run ends
-- after the first step whose outcome is a fault or a stop.
unfoldable pub run : ℕ → State (List ℕ) → List StepRecord
run steps state = records_of_run core_store steps state

-- the last outcome; Next if no step is taken
abbrev pub last_outcome : List StepRecord → Outcome
last_outcome [] = Next
last_outcome (step ∷ []) = step.outcome
last_outcome (step ∷ next ∷ steps) = last_outcome (next ∷ steps)

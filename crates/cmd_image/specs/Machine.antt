-- The step of the machine that is run: the defined step over core memory.
use Rattle.std.specs.Prelude.{ℕ, List}
use Rattle.m36_model.specs.Store.{State}
use Rattle.m36_model.specs.Core.{core_store}
use Rattle.m36_model.specs.Step.{record_of, state_after}
use Rattle.m36_model.specs.declared.record.StepRecord.{StepRecord}

-- the record of the step that is taken in this state
abbrev pub step_record : State (List ℕ) → StepRecord
step_record state = record_of core_store state

-- the state after the step that is taken in this state
abbrev pub after : State (List ℕ) → State (List ℕ)
after state = state_after core_store state

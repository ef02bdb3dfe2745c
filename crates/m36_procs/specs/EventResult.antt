-- One step of one process.
use Rattle.std.specs.Prelude.{ℕ, ◌≡◌, List, slice_get, Some}
use Rattle.m36_model.specs.Core.{core_store}
use Rattle.m36_model.specs.Registers.{RegsFields}
use Rattle.m36_model.specs.Schedule.{Processes, event}
use Rattle.m36_model.specs.declared.record.StepRecord.{StepRecord}

-- The event was a step of process i, which had the registers g.
pub record IsEvent (i : ℕ) (old new : Processes (List ℕ)) (told : StepRecord) (g : RegsFields)
    : Type 0 where
  pub told_is : told ≡ (event core_store old i g).told
  pub state : new ≡ (event core_store old i g).after

-- The event was a step of process i, if there is this process.
abbrev pub EventResult : ℕ → Processes (List ℕ) → Processes (List ℕ) → StepRecord → Type 0
EventResult i old new told =
    (g : RegsFields) → slice_get old.regs i ≡ Some g → IsEvent i old new told g

-- Laws of runs, and of the findings of an audit.
use Rattle.std.specs.Prelude.{◌≡◌, ℕ, zero, suc, ◌^◌, ◌<◌, List, [], ◌∷◌, ◌++◌, All, None, length}
use Rattle.m36_desc.specs.Fields.{DbrFields}
use Rattle.m36_model.specs.Store.{State}
use Rattle.m36_model.specs.Audit.{AreFindings}
use Rattle.m36_model.specs.declared.outcome.Outcome.TheVariants.{Next}
use Rattle.m36_model.specs.declared.record.StepRecord.{StepRecord}
use Rattle.m36_step.specs.MachineFields.{MachineFields}
use Rattle.m36_step.specs.MachineTurn.{machine_turn, machine_after}
use Rattle.m36_step.specs.declared.turns.Turn.{Turn}
use Rattle.m36_step.specs.declared.turns.Turn.TheVariants.{Stepped}
use Rattle.cmd_image.specs.Run.{run, last_outcome}
use Rattle.cmd_image.specs.AuditText.{place_digits}

-- ---- runs

-- A run whose last outcome is Next used up its limit of steps.
abbrev pub LimitIsMet : Type 0
LimitIsMet =
    (steps : ℕ) (state : State (List ℕ))
    → last_outcome (run steps state) ≡ Next → length (run steps state) ≡ steps

-- the record of a turn, as a list of one; no record if the turn is not a step
abbrev pub step_in : Turn → List StepRecord
step_in (Stepped told) = told ∷ []
step_in _ = []

-- the records of the steps among the first n turns of a machine
unfoldable pub steps_in_turns : ℕ → MachineFields → List StepRecord
steps_in_turns zero m = []
steps_in_turns (suc n) m = step_in (machine_turn m) ++ steps_in_turns n (machine_after m)

-- The steps of a run are those among as many turns of a machine that begins in the same state. The
-- machine takes no step after one that ended its run.
abbrev pub RunsAreTurns : Type 0
RunsAreTurns =
    (steps : ℕ) (state : State (List ℕ))
    → steps_in_turns steps (record { state = state; ended = None }) ≡ run steps state

-- ---- findings

-- The place of a finding has no more octal digits than its line prints.
abbrev pub PlaceFits : ℕ × ℕ → Type 0
PlaceFits f = f.1 < 8 ^ place_digits f.0

-- For each finding of an audit, its line prints all digits of the place.
abbrev pub PlacesFit : Type 0
PlacesFit =
    (core : List ℕ) (dbr : DbrFields) (findings : List (ℕ × ℕ))
    → AreFindings core dbr findings → All PlaceFits findings

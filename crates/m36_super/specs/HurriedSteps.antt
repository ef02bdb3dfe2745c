-- Steps of a booted system, one after another, that need no page service.
use Rattle.std.specs.Prelude.{◌≡◌, ℕ, List, length}
use Rattle.m36_model.specs.Store.{State}
use Rattle.m36_model.specs.StoreLaw.{Each}
use Rattle.m36_step.specs.Answers.{IsStepWithNext}
use Rattle.m36_step.specs.Hurry.{state_after_steps}
use Rattle.m36_step.specs.declared.turns.Turn.{Turn}
use Rattle.m36_super.specs.Library.{Library}
use Rattle.m36_super.specs.BootedRun.{Booted, AreTurns}
use Rattle.m36_super.specs.SuperFields.{SuperFields}

-- The run may make n turns, each of which is a step with the outcome Next, and then be in the state
-- `last`.
pub record AreStepsWithNext (lib : Library) (r : Booted) (n : ℕ) (last : Booted) : Type 0 where
  pub turns : List Turn
  pub count : length turns ≡ n
  pub are : AreTurns lib r turns last
  pub each : Each IsStepWithNext turns

-- the registers and the core of a system
abbrev pub machine_state : SuperFields → State (List ℕ)
machine_state s = record { regs = s.regs; store = s.core }

-- the system after n steps of its processor alone: nothing else of it changes
abbrev pub after_steps : ℕ → SuperFields → SuperFields
after_steps n s =
    record s {
      regs = (state_after_steps n (machine_state s)).regs;
      core = (state_after_steps n (machine_state s)).store;
    }

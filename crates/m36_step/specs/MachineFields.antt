-- The model of a machine.
use Rattle.std.specs.Prelude.{ℕ, List, Option}
use Rattle.m36_model.specs.Store.{State}
use Rattle.m36_model.specs.declared.endings.End.{End}

-- registers and core, and how the run of turns has ended, if it has
pub record MachineFields : Type 0 where
  pub state : State (List ℕ)
  pub ended : Option End

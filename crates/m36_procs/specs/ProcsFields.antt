-- The models of processes with their schedule, and of turns.
use Rattle.std.specs.Prelude.{ℕ, List}
use Rattle.m36_model.specs.Schedule.{Processes}

-- the registers of the processes with the words of core, and the process of each event
pub record ProcsFields : Type 0 where
  pub state : Processes (List ℕ)
  pub schedule : List ℕ

-- the numbers of processes that take turns in this order, and how many times they do so
pub record TurnsFields : Type 0 where
  pub times : ℕ
  pub order : List ℕ

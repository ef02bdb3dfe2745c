-- Booted runs with a limit of steps, as lists of turns.
use Rattle.std.specs.Prelude.{◌≡◌, ℕ, ⊤, ◌≤◌, List}
use Rattle.m36_model.specs.StoreLaw.{Each}
use Rattle.m36_step.specs.declared.turns.Turn.{Turn}
use Rattle.m36_step.specs.declared.turns.Turn.TheVariants.{Stepped, Linked, Console, Ended}
use Rattle.m36_step.specs.declared.turns.Turn.TheVariants.{Full, NoMemory}
use Rattle.m36_super.specs.Library.{Library}
use Rattle.m36_super.specs.declared.next_event.NextEvent.{NextEvent}
use Rattle.m36_super.specs.declared.next_event.NextEvent.TheVariants.{Step, Link, Print}
use Rattle.m36_super.specs.declared.next_event.NextEvent.TheVariants as next_event
use Rattle.m36_super.specs.BootedRun.{Booted, IsTurn, AreTurns}
use Rattle.cmd_folder.specs.declared.finish.Finish.{Finish}
use Rattle.cmd_folder.specs.declared.finish.Finish.TheVariants.{Over, Limit}
use Rattle.cmd_folder.specs.RunText.{turns_step_count}

-- The turn is a step or a service that was made.
abbrev pub IsEvent : Turn → Type 0
IsEvent (Stepped told) = ⊤
IsEvent (Linked note) = ⊤
IsEvent (Console text) = ⊤
IsEvent (Ended e) = ⊥
IsEvent Full = ⊥
IsEvent NoMemory = ⊥

-- Turns are made one after another, with no more steps than the limit. `BootedRun` of `m36_super`
-- defines what a turn is and which state it leaves: a step is the defined step of its state, and a
-- link service gives the snapped pair or its code.
pub record Goes
    (lib : Library) (limit : ℕ) (first : Booted) (turns : List Turn) (last : Booted) : Type 0 where
  pub turns_are : AreTurns lib first turns last
  pub events : Each IsEvent turns
  pub few : turns_step_count turns ≤ limit

-- The run ended; or it used up its limit of steps, made the service for which the last one calls,
-- and a step would be next.
abbrev pub Finishes : Finish → Library → ℕ → List Turn → Booted → Type 0
Finishes (Over e) lib limit turns last =
    (after : Booted) × IsTurn lib last (Ended e) after
Finishes Limit lib limit turns last = (turns_step_count turns ≡ limit) × (last.next_event ≡ Step)

-- A link service is next.
abbrev pub AwaitsLink : NextEvent → Type 0
AwaitsLink (Link at) = ⊤
AwaitsLink Step = ⊥
AwaitsLink Print = ⊥
AwaitsLink (next_event.Over e) = ⊥

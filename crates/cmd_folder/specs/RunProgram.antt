-- What a run of a booted system does, as a program. It chooses each turn and puts what is written
-- of it, and then puts the end line. A turn is no event: only what is put shows it.
use Rattle.std.specs.Prelude.{ℕ, zero, suc, ◌≢◌, ◌+◌, List, Some}
use Rattle.m36_step.specs.declared.turns.Turn.{Turn}
use Rattle.m36_step.specs.declared.turns.Turn.TheVariants.{NoMemory}
use Rattle.m36_super.specs.Library.{Library}
use Rattle.m36_super.specs.declared.next_event.NextEvent.{NextEvent}
use Rattle.m36_super.specs.declared.next_event.NextEvent.TheVariants.{Step, Link, Print}
use Rattle.m36_super.specs.declared.next_event.NextEvent.TheVariants as next_event
use Rattle.m36_super.specs.BootedRun.{Booted, IsTurn}
use Rattle.m36_program.specs.Early.{MayEnd, ends}
use Rattle.m36_program.specs.Program.{quiet, Program, puts_all, some, wants}
use Rattle.cmd_folder.specs.declared.command.RunOutput.{RunOutput}
use Rattle.cmd_folder.specs.declared.finish.Finish.{Finish}
use Rattle.cmd_folder.specs.declared.finish.Finish.TheVariants.{Over, Limit}
use Rattle.cmd_folder.specs.RunText.{pieces_of_turn, end_pieces, finish_status}
use Rattle.cmd_image.specs.ImageProgram.{may_end}

-- what a run depends on besides the state and the limit of steps
pub record RunContext : Type 0 where
  -- the library that the system was booted from
  pub lib : Library
  -- for each segment of the catalog, the line that is put if the run ends because the user lacks a
  -- right to it
  pub denied : List (List ℕ)
  -- what is written of each turn
  pub output : RunOutput

-- a turn, and the state after it
pub record TurnAndState : Type 0 where
  pub turn : Turn
  pub after : Booted

-- The system may make this turn in the state before it.
abbrev pub IsPossibleTurn : Library → Booted → TurnAndState → Type 0
IsPossibleTurn lib before made = IsTurn lib before made.turn made.after

-- The system may make this turn, and it did not run out of memory.
pub record FindsMemory (lib : Library) (before : Booted) (made : TurnAndState) : Type 0 where
  pub is : IsPossibleTurn lib before made
  pub found : made.turn ≢ NoMemory

-- ---- the end

-- A program may end with the status of each end of a run.
abbrev pub finish_may_end : (how : Finish) → MayEnd (finish_status (Some how))
finish_may_end (Over e) = may_end e
finish_may_end Limit = tt

-- the end line after a count of steps, the line of a denied segment if there is one, and the status
unfoldable pub put_run_end : RunContext → ℕ → Finish → Program quiet (Unit {0})
put_run_end run taken how =
    puts_all (end_pieces run.denied (Some how) taken)
    (ends (finish_status (Some how)) (finish_may_end how))

-- ---- one turn

-- puts what is written of a turn, and continues with `on`; the number is the count of steps before
-- it
abbrev pub puts_turn :
    RunContext → ℕ → (Booted → Program quiet (Unit {0})) → TurnAndState → Program quiet (Unit {0})
puts_turn run taken on made = puts_all (pieces_of_turn run.output taken made.turn) (on made.after)

-- What follows a service: a step, or the end of the run. No service follows another, so the cases
-- of services only continue.
abbrev pub after_service :
    NextEvent → RunContext → ℕ → (Booted → Program quiet (Unit {0})) → Booted
    → Program quiet (Unit {0})
after_service Step run taken on b = on b
after_service (Link at) run taken on b = on b
after_service Print run taken on b = on b
after_service (next_event.Over e) run taken on b = put_run_end run taken (Over e)

-- what follows a service in this state, by the next event; the number is the count of steps taken
abbrev pub continue_after_service :
    RunContext → ℕ → (Booted → Program quiet (Unit {0})) → Booted → Program quiet (Unit {0})
continue_after_service run taken on b = after_service b.next_event run taken on b

-- What follows a step, by the next event: another step; a link service, for which memory may run
-- out; a console service; or the end of the run.
abbrev pub serve_event :
    NextEvent → RunContext → ℕ → (Booted → Program quiet (Unit {0})) → Booted
    → Program quiet (Unit {0})
serve_event Step run taken on b = on b
serve_event (Link at) run taken on b =
    wants (some (FindsMemory run.lib b) (puts_turn run taken (continue_after_service run taken on)))
serve_event Print run taken on b =
    some (IsPossibleTurn run.lib b) (puts_turn run taken (continue_after_service run taken on))
serve_event (next_event.Over e) run taken on b = put_run_end run taken (Over e)

-- performs the service for which the step that was just taken calls, if any, and continues with
-- `on` if a step follows, or ends the run; the number is the count of steps taken
unfoldable pub serve :
    RunContext → ℕ → (Booted → Program quiet (Unit {0})) → Booted → Program quiet (Unit {0})
serve run taken on b = serve_event b.next_event run taken on b

-- ---- the run

-- A run from a state: the first number is the count of steps taken, the second how many may follow.
unfoldable pub run_from : RunContext → ℕ → ℕ → Booted → Program quiet (Unit {0})
run_from run taken zero b = put_run_end run taken Limit
run_from run taken (suc left) b =
    some (IsPossibleTurn run.lib b)
    (puts_turn run taken (serve run (taken + 1) (λ b. run_from run (taken + 1) left b)))

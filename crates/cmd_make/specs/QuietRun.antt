-- A run of a booted system of which no turn is written, as a program without events. Its value is
-- how the run ended, after how many steps, and the registers that it left.
use Rattle.std.specs.Prelude.{ℕ, zero, suc, ◌+◌}
use Rattle.m36_model.specs.Registers.{RegsFields}
use Rattle.m36_super.specs.Library.{Library}
use Rattle.m36_super.specs.declared.next_event.NextEvent.{NextEvent}
use Rattle.m36_super.specs.declared.next_event.NextEvent.TheVariants.{Step, Link, Print}
use Rattle.m36_super.specs.declared.next_event.NextEvent.TheVariants as next_event
use Rattle.m36_super.specs.BootedRun.{Booted}
use Rattle.m36_program.specs.Program.{quiet, Program, done, some, wants}
use Rattle.cmd_folder.specs.declared.finish.Finish.{Finish}
use Rattle.cmd_folder.specs.declared.finish.Finish.TheVariants.{Over, Limit}
use Rattle.cmd_folder.specs.RunProgram.{TurnAndState, IsPossibleTurn, FindsMemory}

-- how a run ended, after how many steps, and the registers that it left
pub record RunSummary : Type 0 where
  pub how : Finish
  pub steps : ℕ
  pub regs : RegsFields

-- the value of a run that ended in this state, after this many steps
abbrev pub summary_of_run : Finish → ℕ → Booted → RunSummary
summary_of_run how steps b = record { how = how; steps = steps; regs = b.state.regs }

-- What follows a service: a step, or the end of the run. No service follows another, so the cases
-- of services only continue.
abbrev pub after_service :
    NextEvent → ℕ → (Booted → Program quiet RunSummary) → Booted → Program quiet RunSummary
after_service Step taken on b = on b
after_service (Link at) taken on b = on b
after_service Print taken on b = on b
after_service (next_event.Over e) taken on b = done (summary_of_run (Over e) taken b)

-- what follows a service, by the next event after it; the number is the count of steps taken
abbrev pub continue_after_service :
    ℕ → (Booted → Program quiet RunSummary) → TurnAndState → Program quiet RunSummary
continue_after_service taken on made = after_service made.after.next_event taken on made.after

-- What follows a step, by the next event: another step; a link service, for which memory may run
-- out; a console service; or the end of the run.
abbrev pub serve_event :
    NextEvent → Library → ℕ → (Booted → Program quiet RunSummary) → Booted
    → Program quiet RunSummary
serve_event Step lib taken on b = on b
serve_event (Link at) lib taken on b =
    wants (some (FindsMemory lib b) (continue_after_service taken on))
serve_event Print lib taken on b = some (IsPossibleTurn lib b) (continue_after_service taken on)
serve_event (next_event.Over e) lib taken on b = done (summary_of_run (Over e) taken b)

-- performs the service for which the step that was just taken calls, if any, and continues with
-- `on` if a step follows, or ends the run; the number is the count of steps taken
unfoldable pub serve :
    Library → ℕ → (Booted → Program quiet RunSummary) → Booted → Program quiet RunSummary
serve lib taken on b = serve_event b.next_event lib taken on b

-- A run from a state: the first number is the count of steps taken, the second how many may follow.
unfoldable pub run_from : Library → ℕ → ℕ → Booted → Program quiet RunSummary
run_from lib taken zero b = done (summary_of_run Limit taken b)
run_from lib taken (suc left) b =
    some (IsPossibleTurn lib b)
    (λ made. serve lib (taken + 1) (λ b. run_from lib (taken + 1) left b) made.after)

-- What the functions of a quiet run say in their contracts: what is left of its program after each.
use Rattle.std.specs.Prelude.{ℕ, ◌≡◌, [], Result, Ok, Err}
use Rattle.m36_model.specs.declared.endings.End.{End}
use Rattle.m36_status.specs.declared.status.Status.{Status}
use Rattle.m36_status.specs.declared.status.Status.TheVariants as status
use Rattle.m36_super.specs.Library.{Library}
use Rattle.m36_super.specs.declared.next_event.NextEvent.{NextEvent}
use Rattle.m36_super.specs.declared.next_event.NextEvent.TheVariants.{Step}
use Rattle.m36_super.specs.declared.next_event.NextEvent.TheVariants as next_event
use Rattle.m36_super.specs.BootedRun.{Booted}
use Rattle.m36_super.specs.SuperFields.{SuperFields, booted_of}
use Rattle.m36_program.specs.Goes.{Goes}
use Rattle.m36_program.specs.Program.{quiet, Program, some}
use Rattle.cmd_folder.specs.declared.finish.Finish.TheVariants.{Over}
use Rattle.cmd_folder.specs.RunProgram.{IsPossibleTurn}
use Rattle.cmd_make.specs.declared.running.AfterTurn.{AfterTurn}
use Rattle.cmd_make.specs.declared.running.AfterTurn.TheVariants as turn
use Rattle.cmd_make.specs.declared.running.RunEnd.{RunEnd}
use Rattle.cmd_make.specs.QuietRun.{RunSummary, summary_of_run, serve, run_from}

-- `now` is a rest of `first`: each result that `now` reaches without an event, `first` reaches
-- without an event.
abbrev pub IsRestOf : Program quiet RunSummary → Program quiet RunSummary → Type 0
IsRestOf now first = (result : Result RunSummary Status) → Goes now [] result → Goes first [] result

-- the rest of a run: a program that depends on the count of steps taken and of those left
abbrev pub RestOfRun : Type 1
RestOfRun = ℕ → ℕ → Program quiet RunSummary

-- what is left before a step, which is counted in `taken` already
abbrev pub rest_from_step : Library → Booted → RestOfRun
rest_from_step lib b taken left =
    some (IsPossibleTurn lib b) (λ made. serve lib taken (λ b. run_from lib taken left b)
    made.after)

-- what is left after a step, before its service if it has one
abbrev pub rest_from_service : Library → Booted → RestOfRun
rest_from_service lib b taken left = serve lib taken (λ b. run_from lib taken left b) b

-- A step follows, over the same library.
pub record StepFollows (lib : Library) (first : RestOfRun) (after : SuperFields) : Type 0 where
  pub leads :
      (taken left : ℕ) → IsRestOf (run_from lib taken left (booted_of after)) (first taken left)
  pub next : after.next_event ≡ Step
  pub same : after.lib ≡ lib

-- The run has ended in this way.
pub record RunIsOver (e : End) (first : RestOfRun) (after : SuperFields) : Type 0 where
  pub goes :
      (taken left : ℕ) → Goes (first taken left) []
      (Ok (summary_of_run (Over e) taken (booted_of after)))

-- A link service ran out of memory.
pub record RunsOutOfMemory (first : RestOfRun) : Type 0 where
  pub goes : (taken left : ℕ) → Goes (first taken left) [] (Err status.NoMemory)

-- what the result of a turn implies for the program that is left
abbrev pub TurnResult : AfterTurn → Library → RestOfRun → SuperFields → Type 0
TurnResult turn.Next lib first after = StepFollows lib first after
TurnResult (turn.Ended e) lib first after = RunIsOver e first after
TurnResult turn.NoMemory lib first after = RunsOutOfMemory first

-- An answer after a link service agrees with what is next: a step, or the end of the run.
abbrev pub MatchesNextEvent : AfterTurn → NextEvent → Type 0
MatchesNextEvent turn.Next next = next ≡ Step
MatchesNextEvent (turn.Ended e) next = next ≡ next_event.Over e
MatchesNextEvent turn.NoMemory next = ⊥

-- the value of the program, from the result of the code and the system that it left
abbrev pub summary_in_result : Result RunEnd Status → SuperFields → Result RunSummary Status
summary_in_result (Ok end) system =
    Ok (record { how = end.how; steps = end.steps; regs = system.regs })
summary_in_result (Err status) system = Err status

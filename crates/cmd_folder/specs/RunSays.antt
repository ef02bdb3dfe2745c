-- What the functions of a run say in their contracts: what is left of its program after each.
use Rattle.std.specs.Prelude.{ℕ, suc, ◌≡◌, ⊤, List, [], Result, Err}
use Rattle.m36_world.specs.declared.event.Event.{Event}
use Rattle.m36_world.specs.Seen.{Seen}
use Rattle.m36_model.specs.declared.endings.End.{End}
use Rattle.m36_status.specs.declared.status.Status.{Status}
use Rattle.m36_status.specs.declared.status.Status.TheVariants.{WriteFault, NoMemory}
use Rattle.m36_super.specs.Library.{Library}
use Rattle.m36_super.specs.declared.next_event.NextEvent.{NextEvent}
use Rattle.m36_super.specs.declared.next_event.NextEvent.TheVariants.{Step}
use Rattle.m36_super.specs.declared.next_event.NextEvent.TheVariants as next_event
use Rattle.m36_super.specs.BootedRun.{Booted}
use Rattle.m36_super.specs.SuperFields.{SuperFields, booted_of}
use Rattle.m36_program.specs.Goes.{Goes}
use Rattle.m36_program.specs.Performs.{Performs, Leads}
use Rattle.m36_program.specs.Program.{quiet, Program, puts_all}
use Rattle.cmd_folder.specs.declared.command.RunOutput.{RunOutput}
use Rattle.cmd_folder.specs.declared.command.RunOutput.TheVariants as output
use Rattle.cmd_folder.specs.declared.finish.Finish.TheVariants.{Over}
use Rattle.cmd_folder.specs.declared.running.AfterTurn.{AfterTurn}
use Rattle.cmd_folder.specs.declared.running.AfterTurn.TheVariants as turn
use Rattle.cmd_folder.specs.RunProgram.{RunContext, put_run_end, run_from, serve}

-- No text of the console waits in the block.
abbrev pub IsConsoleTextPut : RunOutput → List (List ℕ) → Type 0
IsConsoleTextPut output.Console block = block ≡ []
IsConsoleTextPut output.Trace block = ⊤

-- a run of a system that was booted from this library
abbrev pub run_of : Library → RunOutput → List (List ℕ) → RunContext
run_of lib output denied = record { lib = lib; denied = denied; output = output }

-- `now` is a rest of `first`: each list of events and each result that `now` allows, `first` allows.
abbrev pub IsRestOf : Program quiet (Unit {0}) → Program quiet (Unit {0}) → Type 0
IsRestOf now first =
    (events : List Event) (result : Result (Unit {0}) Status)
    → Goes now events result → Goes first events result

-- the rest of a run: a program that depends on the run and on the count of steps that are left
abbrev pub RestOfRun : Type 1
RestOfRun = RunContext → ℕ → Program quiet (Unit {0})

-- What is left before a step: the pieces of the block are put, and then the run continues. The
-- number is the count of steps taken.
abbrev pub rest_from_step : List (List ℕ) → ℕ → Booted → RestOfRun
rest_from_step block taken b run left = puts_all block (run_from run taken (suc left) b)

-- what is left after a step, before its service if it has one
abbrev pub rest_from_service : List (List ℕ) → ℕ → Booted → RestOfRun
rest_from_service block taken b run left =
    puts_all block (serve run taken (λ b. run_from run taken left b) b)

-- A step follows, over the same library, and no text of the console waits in the block.
pub record StepFollows (lib : Library) (output : RunOutput) (first : RestOfRun) (taken : ℕ)
    (after : SuperFields) (block : List (List ℕ)) (old new : Seen) : Type 0 where
  pub leads :
      (denied : List (List ℕ)) (left : ℕ)
      → Leads (puts_all block (run_from (run_of lib output denied) taken left (booted_of after)))
      (first (run_of lib output denied) left) old new
  pub next : after.next_event ≡ Step
  pub same : after.lib ≡ lib
  pub shown : IsConsoleTextPut output block

-- The run has ended in this way, and its end line is left.
pub record RunIsOver (e : End) (lib : Library) (output : RunOutput) (first : RestOfRun) (taken : ℕ)
    (block : List (List ℕ)) (old new : Seen) : Type 0 where
  pub leads :
      (denied : List (List ℕ)) (left : ℕ)
      → Leads (puts_all block (put_run_end (run_of lib output denied) taken (Over e)))
      (first (run_of lib output denied) left) old new

-- The run cannot continue: the output failed, or a link service ran out of memory. The status is
-- that of the command.
pub record RunFails (status : Status) (lib : Library) (output : RunOutput) (first : RestOfRun)
    (old new : Seen) : Type 0 where
  pub performs :
      (denied : List (List ℕ)) (left : ℕ)
      → Performs (first (run_of lib output denied) left) (Err status) old new

-- what the result of a turn implies for the program that is left
abbrev pub TurnResult :
    AfterTurn → Library → RunOutput → RestOfRun → ℕ → SuperFields → List (List ℕ) → Seen → Seen
    → Type 0
TurnResult turn.Next lib output first taken after block old new =
    StepFollows lib output first taken after block old new
TurnResult (turn.Ended e) lib output first taken after block old new =
    RunIsOver e lib output first taken block old new
TurnResult turn.WriteFailed lib output first taken after block old new =
    RunFails WriteFault lib output first old new
TurnResult turn.NoMemory lib output first taken after block old new =
    RunFails NoMemory lib output first old new

-- An answer after a link service agrees with what is next: a step, or the end of the run.
abbrev pub MatchesNextEvent : AfterTurn → NextEvent → Type 0
MatchesNextEvent turn.Next next = next ≡ Step
MatchesNextEvent (turn.Ended e) next = next ≡ next_event.Over e
MatchesNextEvent turn.WriteFailed next = ⊥
MatchesNextEvent turn.NoMemory next = ⊥

-- What the result of a run of a schedule implies.
use Rattle.std.specs.Prelude.{ℕ, ◌≡◌, List, ◌++◌, Option, Result, Ok, Err}
use Rattle.m36_outside.specs.Passing.{TakesLines}
use Rattle.m36_outside.specs.Put.{PutResult, PutHasCause}
use Rattle.m36_outside.specs.declared.sink.Put.{Put}
use Rattle.m36_outside.specs.declared.sink.Put.TheVariants as put
use Rattle.m36_model.specs.Schedule.{Processes}
use Rattle.m36_procs.specs.ScheduleText.{schedule_text, schedule_pieces, last_state}
use Rattle.m36_procs.specs.declared.fault.WriteFault.{WriteFault}

-- All events were made, and their text was written.
pub record IsRun
    (schedule : List ℕ) (old new : Processes (List ℕ)) (before now : Option (List ℕ))
    : Type 0 where
  pub state : new ≡ last_state schedule old
  pub grew : PutResult put.Done before now (schedule_text schedule old)

-- The events of a prefix of the schedule were made, and a prefix of the text was written.
pub record IsPartRun
    (schedule : List ℕ) (old new : Processes (List ℕ)) (before now : Option (List ℕ))
    : Type 0 where
  pub made : List ℕ
  pub rest : List ℕ
  pub schedule_is : schedule ≡ made ++ rest
  pub state : new ≡ last_state made old
  pub grew : PutResult put.Failed before now (schedule_text schedule old)

-- what the result of a run implies for the state of the processes and for what is written
abbrev pub RunResult :
    Result (Unit {0}) WriteFault → List ℕ → Processes (List ℕ) → Processes (List ℕ)
    → Option (List ℕ) → Option (List ℕ) → Type 0
RunResult (Ok done) schedule old new before now = IsRun schedule old new before now
RunResult (Err cut) schedule old new before now = IsPartRun schedule old new before now

-- the result of the last put of a run
abbrev pub last_put_of : Result (Unit {0}) WriteFault → Put
last_put_of (Ok done) = put.Done
last_put_of (Err cut) = put.Failed

-- what the result implies for the pieces that the sink took, one for each line
abbrev pub RunTakes :
    Result (Unit {0}) WriteFault → List ℕ → Processes (List ℕ) → List (List ℕ) → List (List ℕ)
    → Type 0
RunTakes result schedule old before now =
    TakesLines (last_put_of result) before now (schedule_pieces schedule old)

-- A run that failed raised the count of faults of the sink.
abbrev pub RunHasCause : Result (Unit {0}) WriteFault → ℕ → ℕ → Type 0
RunHasCause result old new = PutHasCause (last_put_of result) old new

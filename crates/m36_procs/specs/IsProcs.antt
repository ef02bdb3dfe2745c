-- The invariant of processes with their schedule.
use Rattle.std.specs.Prelude.{ℕ, ◌≡◌, ◌<◌, ◌≤◌, true, List, length}
use Rattle.m36_model.specs.JointAudit.{most_processes}
use Rattle.m36_model.specs.Schedule.{Processes}
use Rattle.m36_procs.specs.ProcsFile.{are_process_numbers, most_events}

-- The numbers of processes and of events are within their limits, and each number of the schedule
-- is that of one of the processes.
pub record IsWithinLimits (count : ℕ) (schedule : List ℕ) : Type 0 where
  pub few : count ≤ most_processes
  pub short : length schedule ≤ most_events
  pub named : are_process_numbers count schedule ≡ true

-- `IsWithinLimits` holds, and there is at least one process.
pub record IsProcs (s : Processes (List ℕ)) (schedule : List ℕ) : Type 0 where
  pub some : 0 < length s.regs
  pub are : IsWithinLimits (length s.regs) schedule

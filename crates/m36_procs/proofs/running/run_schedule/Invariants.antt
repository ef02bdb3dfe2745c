use Rattle.std.proofs.Common.{◌≡◌, ◌+◌, ◌++◌, length}
use Rattle.m36_outside.proofs.LinesTaken.{CompletesLines}
use Rattle.m36_procs.specs.ScheduleText.{pieces_from, schedule_pieces}
use Rattle.m36_procs.proofs.EventsRun.{Runs}
use Rattle.m36_procs.proofs.running.run_schedule.Given as goal

abbrev pub decreases-events : goal.decreases-events
decreases-events g l = length l.rest

abbrev pub invariant-events : goal.invariant-events
invariant-events g l =
    let written = g.S.Sink.written in
    let taken = g.S.Sink.taken in
    let faults = g.S.Sink.faults in
    record {
      runs : Runs l.schedule l.fn.processes (written l.fn.out) (written l.out) l.block l.n l.rest l.processes;
      pieces : CompletesLines (taken l.out) (taken l.fn.out) (l.block ++ pieces_from (length l.schedule) (l.n + 1) l.rest l.processes) (schedule_pieces l.schedule l.fn.processes);
      faults : faults l.out ≡ faults l.fn.out;
    }

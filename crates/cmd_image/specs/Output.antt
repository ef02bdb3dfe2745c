-- The output of a run, each line one piece: its trace lines and its end line.
use Rattle.std.specs.Prelude.{ℕ, ◌+◌, List, [], ◌∷◌, ◌++◌, Option, Some, None, length}
use Rattle.m36_text.specs.Lines.{as_line}
use Rattle.m36_model.specs.Store.{State}
use Rattle.m36_model.specs.declared.outcome.Outcome.{Outcome}
use Rattle.m36_model.specs.declared.outcome.Stop.TheVariants.{Dis, Operation, Tag}
use Rattle.m36_model.specs.declared.endings.End.{End}
use Rattle.m36_model.specs.declared.endings.End.TheVariants as end
use Rattle.m36_model.specs.declared.record.StepRecord.{StepRecord}
use Rattle.m36_step.specs.MachineTurn.{end_by_outcome}
use Rattle.m36_trace.specs.EndLine.{end_line_of}
use Rattle.m36_trace.specs.TraceLine.{line_of}
use Rattle.m36_status.specs.declared.status.Status.{Status}
use Rattle.m36_status.specs.declared.status.Status.TheVariants.{Done, MachineStop, Steps}
use Rattle.cmd_image.specs.Run.{run, last_outcome}

-- a trace line for each record, with the number of its step; the first is step n
unfoldable pub trace_pieces : ℕ → List StepRecord → List (List ℕ)
trace_pieces n [] = []
trace_pieces n (step ∷ steps) = as_line (line_of n step) ∷ trace_pieces (n + 1) steps

-- the lines of these steps, before which `taken` were taken, and the end line
abbrev pub pieces_from : ℕ → List StepRecord → List (List ℕ)
pieces_from taken steps =
    trace_pieces (taken + 1) steps
    ++ as_line (end_line_of (last_outcome steps) (taken + length steps)) ∷ []

-- the lines of a run of at most `steps` steps
unfoldable pub run_pieces : ℕ → State (List ℕ) → List (List ℕ)
run_pieces steps state = pieces_from 0 (run steps state)

-- The status of a run that ended: Done after DIS, otherwise MachineStop with the end.
abbrev pub end_status : End → Status
end_status (end.Fault fault) = MachineStop (end.Fault fault)
end_status (end.Stop Dis) = Done
end_status (end.Stop Operation) = MachineStop (end.Stop Operation)
end_status (end.Stop Tag) = MachineStop (end.Stop Tag)
end_status (end.Link code) = MachineStop (end.Link code)
end_status end.Console = MachineStop end.Console

-- the status of a run by its end; Steps for None: the run used up its limit of steps
abbrev pub end_or_limit_status : Option End → Status
end_or_limit_status None = Steps
end_or_limit_status (Some e) = end_status e

-- the status by the last outcome of a run
abbrev pub status_after : Outcome → Status
status_after last = end_or_limit_status (end_by_outcome last)

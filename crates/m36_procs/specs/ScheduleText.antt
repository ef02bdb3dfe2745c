-- What a run of a schedule writes: a line for each event, and the last line. Each line is one
-- piece.
use Rattle.std.specs.Prelude.{ℕ, ◌+◌, List, [], ◌∷◌, ◌++◌, length, codes}
use Rattle.m36_outside.specs.Passing.{joined}
use Rattle.m36_text.specs.Digits.{decimal_text}
use Rattle.m36_text.specs.Lines.{as_line}
use Rattle.m36_model.specs.Core.{core_store}
use Rattle.m36_model.specs.Run.{state_after_all}
use Rattle.m36_model.specs.Schedule.{Processes, Event, events}
use Rattle.m36_model.specs.declared.record.StepRecord.{StepRecord}
use Rattle.m36_trace.specs.EndLine.{end_line_with}
use Rattle.m36_trace.specs.TraceLine.{line_of}

-- the line of event n: the process, and the trace line of its step
unfoldable pub event_line : ℕ → ℕ → StepRecord → List ℕ
event_line n process told = as_line ((decimal_text process ++ codes " ") ++ line_of n told)

-- the lines of events; the first event has the number n
unfoldable pub event_pieces : ℕ → List (Event (List ℕ)) → List (List ℕ)
event_pieces n [] = []
event_pieces n (e ∷ more) = event_line n e.process e.told ∷ event_pieces (n + 1) more

-- the last line, after this many events
unfoldable pub end_line : ℕ → List ℕ
end_line events = as_line (end_line_with (codes "schedule") events)

-- what is written from event n on; the schedule has `total` events
abbrev pub pieces_from : ℕ → ℕ → List ℕ → Processes (List ℕ) → List (List ℕ)
pieces_from total n schedule s =
    event_pieces n (events core_store schedule s) ++ end_line total ∷ []

-- the lines of a run of a schedule
unfoldable pub schedule_pieces : List ℕ → Processes (List ℕ) → List (List ℕ)
schedule_pieces schedule s = pieces_from (length schedule) 1 schedule s

-- the text of a run of a schedule
unfoldable pub schedule_text : List ℕ → Processes (List ℕ) → List ℕ
schedule_text schedule s = joined (schedule_pieces schedule s)

-- the state after these events, which begin in state `s`
abbrev pub state_after_events : Processes (List ℕ) → List (Event (List ℕ)) → Processes (List ℕ)
state_after_events s made = state_after_all (λ (e : Event (List ℕ)). e.after) s made

-- the state after a schedule
unfoldable pub last_state : List ℕ → Processes (List ℕ) → Processes (List ℕ)
last_state schedule s = state_after_events s (events core_store schedule s)

-- The maximum number of steps of a command.
use Rattle.std.specs.Prelude.{ℕ, ◌≡◌, ◌+◌, ◌<◌, ◌≤◌, List, [], ◌∷◌}
use Rattle.m36_step.specs.Counting.{step_count_after}
use Rattle.m36_debug.specs.declared.commands.RunningCommand.{RunningCommand}
use Rattle.m36_debug.specs.declared.session_line.SessionLine.{SessionLine}
use Rattle.m36_debug.specs.declared.session_line.SessionLine.TheVariants as session
use Rattle.m36_debug.specs.Commands.{go_limit}
use Rattle.m36_debug.specs.Session.{MachineRelations, Waiting, Running, SessionPoint, standing}
use Rattle.m36_debug.specs.Session.{SessionEvent, EventKind}
use Rattle.m36_debug.specs.Session.{Took, Turned, Went, Follow, lines_in}
use Rattle.m36_debug.specs.SessionLines.{session_line}
use Rattle.m36_debug.specs.SessionState.{SessionStateFields}

-- the number of steps in an event: 1 for a step, and 0 for everything else
abbrev pub step_count : EventKind → ℕ
step_count (Took line) = 0
step_count (Turned turn) = step_count_after 0 turn
step_count (Went answer) = 0

-- the number of steps among events
unfoldable pub steps_taken : {M : Type 0} → List (SessionEvent M) → ℕ
steps_taken [] = 0
steps_taken (e ∷ events) = step_count e.happened + steps_taken events

-- the maximum number of steps of a line
abbrev pub most_steps_of : SessionLine → ℕ
most_steps_of (session.Step n) = n
most_steps_of session.Go = go_limit
most_steps_of (session.Break seg word) = 0
most_steps_of session.Regs = 0
most_steps_of (session.Seg seg word) = 0
most_steps_of session.Where = 0
most_steps_of (session.Back n) = 0
most_steps_of session.Quit = 0
most_steps_of session.Empty = 0
most_steps_of session.Unknown = 0

-- Before another line is taken, a line takes at most its number of steps: `step N` at most N, `go`
-- at most 100,000, and any other line none. A running command takes at most the steps that are
-- left to it.
pub record StepsWithin {M : Type 0} (o : MachineRelations M) : Type 0 where
  pub line :
      (text : List ℕ) (s : SessionStateFields) (m after : M) (events : List (SessionEvent M))
      (s' : SessionPoint)
      (m' : M)
      → Follow o (standing s Waiting) m (record { happened = Took text; after = after } ∷ events)
      s' m'
      → lines_in events ≡ [] → steps_taken events ≤ most_steps_of (session_line text)
  pub within :
      (run : RunningCommand) (s : SessionStateFields) (m : M) (events : List (SessionEvent M))
      (s' : SessionPoint) (m' : M)
      → 0 < run.left → Follow o (standing s (Running run)) m events s' m' → lines_in events ≡ []
      → steps_taken events ≤ run.left

-- A session over a machine: its events, one after another, and what is written for each.
use Rattle.std.specs.Prelude.{ℕ, ◌≡◌, if◌then◌else◌, List, [], ◌∷◌, ◌++◌}
use Rattle.std.specs.Prelude.{Option, Some, None}
use Rattle.m36_model.specs.Registers.{RegsFields}
use Rattle.m36_model.specs.declared.endings.End.{End}
use Rattle.m36_step.specs.declared.turns.Turn.{Turn}
use Rattle.m36_step.specs.declared.turns.BackAnswer.{BackAnswer}
use Rattle.m36_step.specs.declared.turns.BackAnswer.TheVariants as back
use Rattle.m36_debug.specs.declared.commands.TurnCommand.{TurnCommand}
use Rattle.m36_debug.specs.declared.commands.TurnCommand.TheVariants as commands
use Rattle.m36_debug.specs.declared.commands.RunningCommand.{RunningCommand}
use Rattle.m36_debug.specs.declared.commands.AfterTurn.{AfterTurn}
use Rattle.m36_debug.specs.declared.commands.AfterTurn.TheVariants.{Runs, Waits, Starves}
use Rattle.m36_debug.specs.declared.session_line.SessionLine.{SessionLine}
use Rattle.m36_debug.specs.declared.session_line.SessionLine.TheVariants as session
use Rattle.m36_debug.specs.Commands.{run_of, go_limit, is_at_break, after_turn}
use Rattle.m36_debug.specs.SessionLines.{session_line}
use Rattle.m36_debug.specs.SessionTexts.{unknown_line, where_line, break_line, seg_line, regs_lines}
use Rattle.m36_debug.specs.SessionTexts.{end_lines, end_or_where, turn_lines}
use Rattle.m36_debug.specs.SessionState.{SessionStateFields, session_state_after}
use Rattle.m36_debug.specs.SessionState.{session_state_before, session_state_with_break}
use Rattle.m36_debug.specs.SessionState.{has_taken, has_room}

-- what a session uses of a machine: its registers and words, which turns it may answer, and how it
-- may go back
pub record MachineRelations (M : Type 0) : Type 1 where
  pub regs : M → RegsFields
  pub content : M → ℕ → ℕ → Option ℕ
  pub next : M → Turn → M → Type 0
  pub went : M → ℕ → BackAnswer → M → Type 0

-- the relations of a machine, as one record
abbrev pub machine_relations :
    {M : Type 0} → (M → RegsFields) → (M → ℕ → ℕ → Option ℕ) → (M → Turn → M → Type 0)
    → (M → ℕ → BackAnswer → M → Type 0) → MachineRelations M
machine_relations regs content next went =
    record { regs = regs; content = content; next = next; went = went }

-- ---- the state of a session

-- what the session is doing
pub data Activity : Type 0 where
  Waiting : Activity  -- the session waits for the next line
  Running : RunningCommand → Activity  -- a command takes turns
  Backing : ℕ → List ℕ → Activity  -- the machine has to go back n steps, as this line requires
  Over : Activity  -- `quit` was taken
  Starved : Activity  -- a turn, or going back, ran out of memory

-- the state of a session: what it remembers, and what it is doing
pub record SessionPoint : Type 0 where
  pub sitting : SessionStateFields
  pub doing : Activity

-- a state of a session, from what it remembers and what it is doing
abbrev pub standing : SessionStateFields → Activity → SessionPoint
standing s doing = record { sitting = s; doing = doing }

-- ---- events

-- the kinds of events
pub data EventKind : Type 0 where
  Took : List ℕ → EventKind  -- a line was taken
  Turned : Turn → EventKind  -- the machine made a turn
  Went : BackAnswer → EventKind  -- the machine was asked to go back

-- an event, and the machine after it
pub record SessionEvent (M : Type 0) : Type 0 where
  pub happened : EventKind
  pub after : M

-- What may happen when: a line is taken if the session waits for one, a turn is made if a command
-- runs, and the machine goes back if it has to. The turn, or going back, is one that the machine
-- may answer.
abbrev pub MayHappen : {M : Type 0} → MachineRelations M → Activity → M → EventKind → M → Type 0
MayHappen o Waiting m (Took line) m' = m' ≡ m
MayHappen o (Running run) m (Turned turn) m' = o.next m turn m'
MayHappen o (Backing n line) m (Went answer) m' = o.went m n answer m'
MayHappen o doing m happened m' = ⊥

-- ---- a line is taken

-- what the session is doing after a line with a command that may take `left` steps: the command
-- runs, unless the run of the machine has ended
abbrev pub activity_if_running : Option End → TurnCommand → ℕ → Activity
activity_if_running None command left = Running (run_of command left)
activity_if_running (Some end) command left = Waiting

-- what the session is doing after a line was taken
abbrev pub activity_after_line : SessionStateFields → List ℕ → SessionLine → Activity
activity_after_line s line (session.Step n) = activity_if_running s.ended commands.Step n
activity_after_line s line session.Go = activity_if_running s.ended commands.Go go_limit
activity_after_line s line (session.Break seg word) = Waiting
activity_after_line s line session.Regs = Waiting
activity_after_line s line (session.Seg seg word) = Waiting
activity_after_line s line session.Where = Waiting
activity_after_line s line (session.Back n) = if has_taken s n then Backing n line else Waiting
activity_after_line s line session.Quit = Over
activity_after_line s line session.Empty = Waiting
activity_after_line s line session.Unknown = Waiting

-- what the session remembers after a line was taken
abbrev pub state_after_line : SessionStateFields → SessionLine → SessionStateFields
state_after_line s (session.Step n) = s
state_after_line s session.Go = s
state_after_line s (session.Break seg word) = session_state_with_break s seg word
state_after_line s session.Regs = s
state_after_line s (session.Seg seg word) = s
state_after_line s session.Where = s
state_after_line s (session.Back n) = s
state_after_line s session.Quit = s
state_after_line s session.Empty = s
state_after_line s session.Unknown = s

-- the answer to `break`: the break, if there is room for it; otherwise the line is unknown
abbrev pub break_answer : SessionStateFields → List ℕ → ℕ → ℕ → List (List ℕ)
break_answer s line seg word =
    (if has_room s then break_line seg word else unknown_line line) ∷ []

-- what is written for a line; `step` and `go` write the end line again if the run has ended
abbrev pub line_answer :
    RegsFields → (ℕ → ℕ → Option ℕ) → SessionStateFields → List ℕ → SessionLine → List (List ℕ)
line_answer g content s line (session.Step n) = end_lines s.ended s.taken
line_answer g content s line session.Go = end_lines s.ended s.taken
line_answer g content s line (session.Break seg word) = break_answer s line seg word
line_answer g content s line session.Regs = regs_lines g
line_answer g content s line (session.Seg seg word) = seg_line seg word (content seg word) ∷ []
line_answer g content s line session.Where = where_line g.ppr ∷ []
line_answer g content s line (session.Back n) =
    if has_taken s n then [] else unknown_line line ∷ []
line_answer g content s line session.Quit = []
line_answer g content s line session.Empty = []
line_answer g content s line session.Unknown = unknown_line line ∷ []

-- ---- a command takes a turn

-- what the session is doing after a turn
abbrev pub activity_by_after_turn : AfterTurn → Activity
activity_by_after_turn (Runs run) = Running run
activity_by_after_turn Waits = Waiting
activity_by_after_turn Starves = Starved

-- the lines that `go` writes after a turn: none before it is complete; then the end line if the run
-- has ended, and otherwise where it has stopped
abbrev pub go_lines : RegsFields → SessionStateFields → AfterTurn → List (List ℕ)
go_lines g s (Runs run) = []
go_lines g s Waits = end_or_where s.ended s.taken g.ppr ∷ []
go_lines g s Starves = []

-- the lines that a command writes for a turn
abbrev pub command_lines :
    TurnCommand → RegsFields → ℕ → SessionStateFields → Turn → AfterTurn → List (List ℕ)
command_lines commands.Step g taken after turn next = turn_lines taken turn
command_lines commands.Go g taken after turn next = go_lines g after next

-- what a command does after a turn that left these registers
abbrev pub next_of : RegsFields → SessionStateFields → RunningCommand → Turn → AfterTurn
next_of g s run turn = after_turn run (is_at_break g.ppr s.breaks) turn

-- the lines that are written for a turn of a running command, given the state before it and the
-- registers after it
abbrev pub running_turn_lines :
    RegsFields → SessionStateFields → RunningCommand → Turn → List (List ℕ)
running_turn_lines g s run turn =
    command_lines run.command g s.taken (session_state_after s turn) turn (next_of g s run turn)

-- the state of the session after a turn of a running command, given the registers after it
abbrev pub point_after_turn : RegsFields → SessionStateFields → RunningCommand → Turn → SessionPoint
point_after_turn g s run turn =
    standing (session_state_after s turn) (activity_by_after_turn (next_of g s run turn))

-- ---- the machine was asked to go back

-- the state of the session after the machine was asked to go back n steps
abbrev pub point_after_back : SessionStateFields → ℕ → BackAnswer → SessionPoint
point_after_back s n back.Done = standing (session_state_before s n) Waiting
point_after_back s n (back.Before taken) = standing s Waiting
point_after_back s n back.Unable = standing s Waiting
point_after_back s n back.NoMemory = standing s Starved

-- The lines that are written after the machine was asked to go back. If it did not, the line is
-- answered as an unknown one; if memory ran out, nothing is written.
abbrev pub back_answer : RegsFields → List ℕ → BackAnswer → List (List ℕ)
back_answer g line back.Done = where_line g.ppr ∷ []
back_answer g line (back.Before taken) = unknown_line line ∷ []
back_answer g line back.Unable = unknown_line line ∷ []
back_answer g line back.NoMemory = []

-- ---- a session

-- the state after an event, given the registers that the machine then has
abbrev pub state_after_by : RegsFields → SessionStateFields → Activity → EventKind → SessionPoint
state_after_by g s Waiting (Took line) =
    standing (state_after_line s (session_line line))
    (activity_after_line s line (session_line line))
state_after_by g s (Running run) (Turned turn) = point_after_turn g s run turn
state_after_by g s (Backing n line) (Went answer) = point_after_back s n answer
state_after_by g s doing happened = standing s doing

-- the state of the session after an event
unfoldable pub state_after : RegsFields → SessionPoint → EventKind → SessionPoint
state_after g s happened = state_after_by g s.sitting s.doing happened

-- the lines that are written for an event, given what the session remembers and what it is doing
-- before it, and the registers and words of the machine after it
abbrev pub event_lines_by :
    RegsFields → (ℕ → ℕ → Option ℕ) → SessionStateFields → Activity → EventKind → List (List ℕ)
event_lines_by g content s Waiting (Took line) = line_answer g content s line (session_line line)
event_lines_by g content s (Running run) (Turned turn) = running_turn_lines g s run turn
event_lines_by g content s (Backing n line) (Went answer) = back_answer g line answer
event_lines_by g content s doing happened = []

-- the lines that are written for an event, given the state of the session before it, and the
-- registers and words of the machine after it
unfoldable pub event_lines :
    RegsFields → (ℕ → ℕ → Option ℕ) → SessionPoint → EventKind → List (List ℕ)
event_lines g content s happened = event_lines_by g content s.sitting s.doing happened

-- Events follow one another, from a state of the session and a machine to others.
unfoldable pub Follow :
    {M : Type 0} → MachineRelations M → SessionPoint → M → List (SessionEvent M) → SessionPoint → M
    → Type 0
Follow o s m [] s' m' = (s' ≡ s) × (m' ≡ m)
Follow o s m (e ∷ events) s' m' =
    MayHappen o s.doing m e.happened e.after
    × Follow o (state_after (o.regs e.after) s e.happened) e.after events s' m'

-- the lines that are written for events
unfoldable pub texts_of :
    {M : Type 0} → MachineRelations M → SessionPoint → List (SessionEvent M) → List (List ℕ)
texts_of o s [] = []
texts_of o s (e ∷ events) =
    event_lines (o.regs e.after) (o.content e.after) s e.happened
    ++ texts_of o (state_after (o.regs e.after) s e.happened) events

-- the line that is taken in an event, if there is one
abbrev pub line_in : EventKind → List (List ℕ)
line_in (Took line) = line ∷ []
line_in (Turned turn) = []
line_in (Went answer) = []

-- the lines that are taken in events
unfoldable pub lines_in : {M : Type 0} → List (SessionEvent M) → List (List ℕ)
lines_in [] = []
lines_in (e ∷ events) = line_in e.happened ++ lines_in events

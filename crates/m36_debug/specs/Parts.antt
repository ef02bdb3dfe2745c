-- The contracts of the parts of a session: a turn, a command, a line and several lines.
use Rattle.std.specs.Prelude.{ℕ, ◌≡◌, ◌+◌, ◌<◌, ◌≤◌, ◌⊎◌, Bool, true, false, List, [], ◌∷◌}
use Rattle.std.specs.Prelude.{Option, Some, None}
use Rattle.m36_step.specs.Answers.{IsService, IsStep, PrecludesStep, is_service}
use Rattle.m36_model.specs.declared.endings.End.{End}
use Rattle.m36_outside.specs.declared.sink.Put.{Put}
use Rattle.m36_outside.specs.declared.sink.Put.TheVariants.{Done, Failed}
use Rattle.m36_debug.specs.Putting.{Pending, PutsPieces}
use Rattle.m36_step.specs.declared.turns.Turn.{Turn}
use Rattle.m36_debug.specs.declared.commands.RunningCommand.{RunningCommand}
use Rattle.m36_debug.specs.declared.commands.AfterTurn.{AfterTurn}
use Rattle.m36_debug.specs.declared.commands.AfterTurn.TheVariants.{Runs, Waits, Starves}
use Rattle.m36_debug.specs.declared.machine_relations.Came.{Came}
use Rattle.m36_debug.specs.declared.machine_relations.Came.TheVariants as comes
use Rattle.m36_debug.specs.declared.machine_relations.LineResult.{LineResult}
use Rattle.m36_debug.specs.declared.machine_relations.LineResult.TheVariants as ends
use Rattle.m36_debug.specs.Session.{MachineRelations, Activity, Waiting, Running, Backing, Over}
use Rattle.m36_debug.specs.Session.{Starved}
use Rattle.m36_debug.specs.Session.{SessionPoint, SessionEvent, standing, Follow, texts_of}
use Rattle.m36_debug.specs.Session.{lines_in}
use Rattle.m36_debug.specs.SessionTexts.{unknown_line, end_line}
use Rattle.m36_debug.specs.SessionState.{SessionStateFields}

-- A part of a session: these lines were taken in it, and what its events say was put, or a prefix
-- of it if the answer is Failed.
pub record SessionPart {M : Type 0} (o : MachineRelations M) (s : SessionPoint) (m : M)
    (lines : List (List ℕ))
    (s' : SessionPoint) (m' : M) (answer : Put) (old new : Pending) : Type 0 where
  pub events : List (SessionEvent M)
  pub follow : Follow o s m events s' m'
  pub took : lines_in events ≡ lines
  pub wrote : PutsPieces answer (texts_of o s events) old new

-- A part of a session in which the output failed. Nothing is known of the state of the session
-- after it but that there is one.
pub record FailedPart {M : Type 0} (o : MachineRelations M) (s : SessionPoint) (m : M)
    (lines : List (List ℕ))
    (m' : M) (old new : Pending) : Type 0 where
  pub stands : SessionPoint
  pub part : SessionPart o s m lines stands m' Failed old new

-- ---- a turn

-- what the session is doing after a turn of a command, by the result of the turn
abbrev pub activity_by_turn_result : Came → Activity
activity_by_turn_result (comes.Runs run service) = Running run
activity_by_turn_result comes.Waits = Waiting
activity_by_turn_result comes.Starves = Starved
activity_by_turn_result comes.Cut = Waiting

-- the result of a turn whose lines were put, by what the command does after it
abbrev pub put_turn_result : Turn → AfterTurn → Came
put_turn_result turn (Runs run) = comes.Runs run (is_service turn)
put_turn_result turn Waits = comes.Waits
put_turn_result turn Starves = comes.Starves

-- the result of a turn, given whether what it says could be put
abbrev pub turn_result : Put → Turn → AfterTurn → Came
turn_result Done turn next = put_turn_result turn next
turn_result Failed turn next = comes.Cut

-- How a turn changes the steps that a command may still take (left, next) and the count of steps of
-- the session (before, after): not at all if it is a service (true); otherwise fewer are left, and
-- the count rises by at most one.
abbrev pub ChangesCounts : Bool → ℕ → ℕ → ℕ → ℕ → Type 0
ChangesCounts true next left before after = (next ≡ left) × (after ≡ before)
ChangesCounts false next left before after = (next < left) × (after ≤ before + 1)

-- how a turn with this result changes the steps that are left and the count of steps of the session
abbrev pub TurnChangesCounts : Came → ℕ → ℕ → ℕ → Type 0
TurnChangesCounts (comes.Runs run service) left before after =
    ChangesCounts service run.left left before after
TurnChangesCounts comes.Waits left before after = after ≤ before + 1
TurnChangesCounts comes.Starves left before after = after ≤ before + 1
TurnChangesCounts comes.Cut left before after = after ≤ before + 1

-- A turn of this kind leads from one state of the machine to the other.
pub record MakesTurn {M : Type 0} (o : MachineRelations M) (Kind : Turn → Type 0)
    (m m' : M) : Type 0 where
  pub turn : Turn
  pub next : o.next m turn m'
  pub kind : Kind turn

-- If the result of a turn has the flag for services, the turn was a service.
abbrev pub ServiceIsFlagged : {M : Type 0} → MachineRelations M → Came → M → M → Type 0
ServiceIsFlagged o (comes.Runs run service) m m' = service ≡ true → MakesTurn o IsService m m'
ServiceIsFlagged o comes.Waits m m' = Unit {0}
ServiceIsFlagged o comes.Starves m m' = Unit {0}
ServiceIsFlagged o comes.Cut m m' = Unit {0}

-- If a command has no steps left and still takes another turn, the one before it was one that no
-- step may follow.
abbrev pub PrecludesStepIfNoneLeft : {M : Type 0} → MachineRelations M → Came → M → M → Type 0
PrecludesStepIfNoneLeft o (comes.Runs run service) m m' =
    run.left ≡ 0 → MakesTurn o PrecludesStep m m'
PrecludesStepIfNoneLeft o comes.Waits m m' = Unit {0}
PrecludesStepIfNoneLeft o comes.Starves m m' = Unit {0}
PrecludesStepIfNoneLeft o comes.Cut m m' = Unit {0}

-- The count of steps changes only by a step.
abbrev pub CountsSteps : {M : Type 0} → MachineRelations M → ℕ → ℕ → M → M → Type 0
CountsSteps o before after m m' = (after ≡ before) ⊎ MakesTurn o IsStep m m'

-- The contract of a turn of a command, by its result: a part of a session in which no line is
-- taken.
abbrev pub TurnContract :
    {M : Type 0} → MachineRelations M → Came → SessionPoint → M → SessionStateFields → M → Pending
    → Pending
    → Type 0
TurnContract o comes.Cut s m sitting m' old new = FailedPart o s m [] m' old new
TurnContract o came s m sitting m' old new =
    SessionPart o s m [] (standing sitting (activity_by_turn_result came)) m' Done old new

-- ---- a command, a line, and several lines

-- what the session is doing after a line, by how the line ended
abbrev pub activity_by_line_result : LineResult → Activity
activity_by_line_result ends.Line = Waiting
activity_by_line_result ends.Quit = Over
activity_by_line_result ends.Starved = Starved
activity_by_line_result ends.Cut = Waiting

-- the contract of a command or of lines, by how they ended
abbrev pub LineContract :
    {M : Type 0} → MachineRelations M → LineResult → SessionPoint → M → List (List ℕ)
    → SessionStateFields → M → Pending
    → Pending → Type 0
LineContract o ends.Cut s m lines sitting m' old new = FailedPart o s m lines m' old new
LineContract o end s m lines sitting m' old new =
    SessionPart o s m lines (standing sitting (activity_by_line_result end)) m' Done old new

-- the end of a line whose answer is written at once
abbrev pub result_of_put : Put → LineResult
result_of_put Done = ends.Line
result_of_put Failed = ends.Cut

-- The answer to a line was put at once, whole, or a prefix of it if the output failed.
abbrev pub PutsAnswer : LineResult → Pending → Pending → List (List ℕ) → Type 0
PutsAnswer ends.Line old new lines = PutsPieces Done lines old new
PutsAnswer ends.Quit old new lines = ⊥
PutsAnswer ends.Starved old new lines = ⊥
PutsAnswer ends.Cut old new lines = PutsPieces Failed lines old new

-- A line was answered at once: `lines` were put, and session and machine are unchanged.
pub record IsTold {M : Type 0} (end : LineResult) (lines : List (List ℕ)) (s : SessionStateFields)
    (m : M)
    (sitting : SessionStateFields) (m' : M) (old new : Pending) : Type 0 where
  pub puts : PutsAnswer end old new lines
  pub sitting_stays : sitting ≡ s
  pub machine_stays : m' ≡ m

-- If the run has ended, a command writes the end line again; otherwise it takes its turns.
abbrev pub CommandContract :
    {M : Type 0} → MachineRelations M → LineResult → Option End → RunningCommand
    → SessionStateFields → M → SessionStateFields → M
    → Pending → Pending → Type 0
CommandContract o answer (Some end) run s m sitting m' old new =
    IsTold answer (end_line end s.taken ∷ []) s m sitting m' old new
CommandContract o answer None run s m sitting m' old new =
    LineContract o answer (standing s (Running run)) m [] sitting m' old new

-- The machine goes back if n steps were taken; otherwise the line is unknown.
abbrev pub BackContract :
    {M : Type 0} → MachineRelations M → LineResult → Bool → List ℕ → ℕ → SessionStateFields → M
    → SessionStateFields → M
    → Pending → Pending → Type 0
BackContract o answer true line n s m sitting m' old new =
    LineContract o answer (standing s (Backing n line)) m [] sitting m' old new
BackContract o answer false line n s m sitting m' old new =
    IsTold answer (unknown_line line ∷ []) s m sitting m' old new

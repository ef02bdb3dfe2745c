-- Laws of sessions: that a call which performs the program of a session is a session by its events;
-- when its input is too long; and that over one machine the same bytes of input have one text,
-- whatever the pieces in which they come.
use Rattle.std.specs.Prelude.{ℕ, ◌≡◌, ◌<◌, ◌⊎◌, ⊤, List, [], ◌∷◌, All, length, take, Some, Result}
use Rattle.m36_world.specs.Seen.{Seen}
use Rattle.m36_step.specs.declared.turns.Turn.{Turn}
use Rattle.m36_step.specs.declared.turns.Turn.TheVariants as turns
use Rattle.m36_step.specs.declared.turns.BackAnswer.{BackAnswer}
use Rattle.m36_step.specs.declared.turns.BackAnswer.TheVariants as back
use Rattle.m36_status.specs.declared.status.Status.{Status}
use Rattle.m36_program.specs.Alike.{IsEnd, OneText}
use Rattle.m36_program.specs.Performs.{Performs}
use Rattle.m36_program.specs.MayHappen.{pieces_of}
use Rattle.m36_debug.specs.declared.fault.SessionFault.{SessionFault}
use Rattle.m36_debug.specs.LinesTaken.{whole_lines}
use Rattle.m36_debug.specs.Session.{MachineRelations, EventKind, Took, Turned, Went, SessionEvent}
use Rattle.m36_debug.specs.SessionLines.{IsNotQuit}
use Rattle.m36_debug.specs.SessionProgram.{session, ended_by}
use Rattle.m36_debug.specs.SessionContract.{SessionContractInWorld, bytes_limit}

-- There are more bytes than a session takes, and no whole line within that limit is `quit`.
pub record IsTooLong (bytes : List ℕ) : Type 0 where
  pub more : bytes_limit < length bytes
  pub none : All IsNotQuit (whole_lines (take bytes_limit bytes))

-- A session over machine m ended with this result. Its lines are those of the bytes that were
-- taken, and what was put is what its events write, or a prefix of it if the output failed. No file
-- was read.
pub record IsHeld {M : Type 0} (o : MachineRelations M) (m : M) (result : Result (Unit {0}) Status)
    (old new : Seen) : Type 0 where
  pub ended : Result (Unit {0}) SessionFault
  pub result_is : result ≡ ended_by ended
  pub later : M
  pub says : SessionContractInWorld o ended m later old new
  pub reads : new.reads ≡ old.reads
  pub read_faults : new.read_faults ≡ old.read_faults

-- Two answers of a machine, and the machine after each, are equal, unless memory ran out in one of
-- the two.
abbrev pub OneAnswer : {A M : Type 0} → A → A → A → M → M → Type 0
OneAnswer no_memory one other m m' =
    (one ≡ no_memory) ⊎ (other ≡ no_memory) ⊎ ((one ≡ other) × (m ≡ m'))

-- Each state has one turn, and one answer to going back a number of steps.
pub record IsDeterministic {M : Type 0} (o : MachineRelations M) : Type 0 where
  pub turns :
      (before m m' : M) (one other : Turn) → o.next before one m → o.next before other m'
      → OneAnswer turns.NoMemory one other m m'
  pub goes_back :
      (before m m' : M) (n : ℕ) (one other : BackAnswer)
      → o.went before n one m → o.went before n other m' → OneAnswer back.NoMemory one other m m'

-- If the event is a turn, the turn has this property.
abbrev pub TurnIs : (Turn → Type 0) → EventKind → Type 0
TurnIs Is (Took line) = ⊤
TurnIs Is (Turned turn) = Is turn
TurnIs Is (Went answer) = ⊤

-- Each turn in these events has this property.
abbrev pub EachTurn : {M : Type 0} → (Turn → Type 0) → List (SessionEvent M) → Type 0
EachTurn Is [] = ⊤
EachTurn Is (e ∷ events) = TurnIs Is e.happened × EachTurn Is events

-- What holds of each call that performs the program of a session.
pub record SessionLaw {M : Type 0} (o : MachineRelations M) : Type 0 where
  -- it is a session by its events
  pub held :
      (m : M) (result : Result (Unit {0}) Status) (old new : Seen)
      → Performs (session o m) result old new → IsHeld o m result old new
  -- Two calls over the same machine with the same bytes of input, of which the second ends as the
  -- program says (`IsEnd`). The pieces that the first puts are a prefix of those of the second,
  -- whatever the pieces of input. If the first also ends as the program says, the pieces and the
  -- results are equal.
  pub one_text :
      IsDeterministic o → (m : M) (bytes : List ℕ) (result end : Result (Unit {0}) Status)
      (old new old' new' : Seen)
      → IsEnd end → old.left ≡ Some bytes → old'.left ≡ Some bytes
      → (one : Performs (session o m) result old new)
      (other : Performs (session o m) end old' new')
      → OneText (pieces_of one.events) (pieces_of other.events) result end

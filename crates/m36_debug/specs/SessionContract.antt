-- What the answer of a session implies.
use Rattle.std.specs.Prelude.{ℕ, ◌≡◌, ◌+◌, ◌≤◌, ◌<◌, ◌⊎◌, List, [], ◌∷◌, ◌++◌, All, length}
use Rattle.std.specs.Prelude.{take, Option}
use Rattle.std.specs.Prelude.{Result, Ok, Err}
use Rattle.std.specs.Io.KnownBytes.{IsAtEnd}
use Rattle.m36_outside.specs.Counts.{Rose}
use Rattle.m36_outside.specs.Passing.{joined}
use Rattle.m36_outside.specs.Piece.{prepended}
use Rattle.m36_outside.specs.declared.sink.Put.{Put}
use Rattle.m36_outside.specs.declared.sink.Put.TheVariants.{Done, Failed}
use Rattle.m36_outside.specs.SinkState.{SinkState}
use Rattle.m36_text.specs.Lines.{open_lines_of}
use Rattle.m36_debug.specs.declared.fault.SessionFault.{SessionFault}
use Rattle.m36_debug.specs.declared.fault.SessionFault.TheVariants as fault
use Rattle.m36_debug.specs.declared.session_line.SessionLine.TheVariants.{Quit}
use Rattle.m36_debug.specs.declared.machine_relations.LineResult.{LineResult}
use Rattle.m36_debug.specs.declared.machine_relations.LineResult.TheVariants as ends
use Rattle.m36_debug.specs.LinesTaken.{whole_lines, IsFirstPart}
use Rattle.m36_outside.specs.Putting.{PutsPieces}
use Rattle.m36_debug.specs.Session.{MachineRelations, Activity, Waiting, Over, SessionPoint}
use Rattle.m36_debug.specs.Session.{SessionEvent, standing}
use Rattle.m36_debug.specs.Session.{Follow, texts_of, lines_in}
use Rattle.m36_debug.specs.SessionLines.{session_line, IsNotQuit}
use Rattle.m36_debug.specs.SessionState.{initial_session_state}
use Rattle.m36_program.specs.MayHappen.{output_of}
use Rattle.m36_world.specs.Seen.{Seen}

-- the maximum number of bytes of a session
abbrev pub bytes_limit : ℕ
bytes_limit = 1048576

-- the state of an input
pub record LinesSeen : Type 0 where
  -- the bytes that are left, if the input shows them
  pub left : Option (List ℕ)
  -- the pieces that it gave, in order
  pub given : List (List ℕ)
  -- the number of calls that failed
  pub faults : ℕ

-- the state of an input with these parts
abbrev pub input : Option (List ℕ) → List (List ℕ) → ℕ → LinesSeen
input left given faults = record { left = left; given = given; faults = faults }

-- The input has ended: an empty piece was given last, and nothing is left.
pub record HasEnded (pieces : List (List ℕ)) (new : LinesSeen) : Type 0 where
  pub before : List (List ℕ)
  pub last : pieces ≡ before ++ [] ∷ []
  pub none : IsAtEnd new.left

-- The input is not read again after its end, which an empty piece reports: no piece follows that
-- one, and the count of faults does not change.
abbrev pub StopsAtEnd : List (List ℕ) → ℕ → ℕ → Type 0
StopsAtEnd [] old new = Unit {0}
StopsAtEnd ([] ∷ pieces) old new = (pieces ≡ []) × (new ≡ old)
StopsAtEnd ((byte ∷ piece) ∷ pieces) old new = StopsAtEnd pieces old new

-- all lines were taken; the last may lack its line feed, since the input has ended
pub record TookAll (pieces lines : List (List ℕ)) (doing : Activity)
    (new : LinesSeen) : Type 0 where
  pub waits : doing ≡ Waiting
  pub all : lines ≡ open_lines_of (joined pieces)
  pub ended : HasEnded pieces new

-- the first lines of an input that has ended; the last of all its lines may lack its line feed
pub record TookOpen (pieces lines : List (List ℕ)) (new : LinesSeen) : Type 0 where
  pub some : IsFirstPart lines (open_lines_of (joined pieces))
  pub ended : HasEnded pieces new

-- The first lines were taken. While more input may follow, only whole lines are taken: the bytes
-- after the last line feed are a line only once the input has ended.
abbrev pub TookSome : List (List ℕ) → List (List ℕ) → LinesSeen → Type 0
TookSome pieces lines new =
    IsFirstPart lines (whole_lines (joined pieces)) ⊎ TookOpen pieces lines new

-- the last of these lines is `quit`
pub record EndInQuit (lines : List (List ℕ)) : Type 0 where
  pub before : List (List ℕ)
  pub last : List ℕ
  pub are : lines ≡ before ++ last ∷ []
  pub quits : session_line last ≡ Quit

-- the first lines were taken, the last of which is `quit`
pub record TookQuit (pieces lines : List (List ℕ)) (doing : Activity)
    (new : LinesSeen) : Type 0 where
  pub over : doing ≡ Over
  pub some : TookSome pieces lines new
  pub quit : EndInQuit lines

-- all whole lines were taken, and none is `quit`
pub record TookWhole (bytes : List ℕ) (lines : List (List ℕ)) (doing : Activity) : Type 0 where
  pub waits : doing ≡ Waiting
  pub whole : lines ≡ whole_lines bytes
  pub none : All IsNotQuit lines

-- which lines of the bytes in these pieces were taken, by the answer
abbrev pub TookLinesBy :
    Result (Unit {0}) SessionFault → List (List ℕ) → List (List ℕ) → Activity → LinesSeen → Type 0
TookLinesBy (Ok done) pieces lines doing new =
    TookQuit pieces lines doing new ⊎ TookAll pieces lines doing new
TookLinesBy (Err fault.ReadFault) pieces lines doing new = TookWhole (joined pieces) lines doing
TookLinesBy (Err fault.TooLong) pieces lines doing new =
    TookWhole (take bytes_limit (joined pieces)) lines doing
TookLinesBy (Err fault.WriteFault) pieces lines doing new = TookSome pieces lines new
TookLinesBy (Err fault.NoMemory) pieces lines doing new = TookSome pieces lines new

-- the number of bytes that were read; one more than the limit shows that there are too many
abbrev pub CountBy : Result (Unit {0}) SessionFault → ℕ → Type 0
CountBy (Ok done) count = count ≤ bytes_limit
CountBy (Err fault.ReadFault) count = count ≤ bytes_limit
CountBy (Err fault.TooLong) count = (bytes_limit < count) × (count ≤ bytes_limit + 1)
CountBy (Err fault.WriteFault) count = count ≤ bytes_limit
CountBy (Err fault.NoMemory) count = count ≤ bytes_limit

-- the result of the last put of a session with this result
abbrev pub last_put_of : Result (Unit {0}) SessionFault → Put
last_put_of (Ok done) = Done
last_put_of (Err fault.ReadFault) = Done
last_put_of (Err fault.TooLong) = Done
last_put_of (Err fault.WriteFault) = Failed
last_put_of (Err fault.NoMemory) = Done

-- these lines were written, or a prefix of them if the result is WriteFault
abbrev pub WroteBy :
    Result (Unit {0}) SessionFault → SinkState → SinkState → List (List ℕ) → Type 0
WroteBy result old new lines = PutsPieces (last_put_of result) lines old new

-- the result of a session, by how its last lines ended
abbrev pub session_result : LineResult → Result (Unit {0}) SessionFault
session_result ends.Line = Ok tt
session_result ends.Quit = Ok tt
session_result ends.Starved = Err fault.NoMemory
session_result ends.Cut = Err fault.WriteFault

-- the count of faults of the input rose only with ReadFault
abbrev pub ReadHasCause : Result (Unit {0}) SessionFault → ℕ → ℕ → Type 0
ReadHasCause (Ok done) old new = new ≡ old
ReadHasCause (Err fault.ReadFault) old new = Rose old new
ReadHasCause (Err fault.TooLong) old new = new ≡ old
ReadHasCause (Err fault.WriteFault) old new = new ≡ old
ReadHasCause (Err fault.NoMemory) old new = new ≡ old

-- A session, by its events: each may follow the one before, from the machine before the call to the
-- machine after it. The lines that they take are those of the bytes that were read, and `lines` is
-- what the events write.
pub record IsSession {M : Type 0} (o : MachineRelations M) (result : Result (Unit {0}) SessionFault)
    (m m' : M) (before after : LinesSeen) (lines : List (List ℕ)) : Type 0 where
  pub pieces : List (List ℕ)
  pub gave : after.given ≡ before.given ++ pieces
  pub came : before.left ≡ prepended (joined pieces) after.left
  pub count : CountBy result (length (joined pieces))
  pub read_cause : ReadHasCause result before.faults after.faults
  pub stops : StopsAtEnd pieces before.faults after.faults
  pub events : List (SessionEvent M)
  pub stands : SessionPoint
  pub follow : Follow o (standing initial_session_state Waiting) m events stands m'
  pub took : TookLinesBy result pieces (lines_in events) stands.doing after
  pub said : lines ≡ texts_of o (standing initial_session_state Waiting) events

-- A session was held, and what its events say was written, or a prefix of it.
pub record SessionContract {M : Type 0} (o : MachineRelations M)
    (result : Result (Unit {0}) SessionFault)
    (m m' : M) (before after : LinesSeen) (old new : SinkState) : Type 0 where
  pub lines : List (List ℕ)
  pub session : IsSession o result m m' before after lines
  pub wrote : WroteBy result old new lines

-- as `SessionContract`, with the input and the output of a world
abbrev pub SessionContractInWorld :
    {M : Type 0} → MachineRelations M → Result (Unit {0}) SessionFault → M → M → Seen → Seen
    → Type 0
SessionContractInWorld o result m m' old new =
    SessionContract o result m m' (input old.left old.inputs old.input_faults)
    (input new.left new.inputs new.input_faults) (output_of old) (output_of new)

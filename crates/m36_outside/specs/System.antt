-- What the calls of the system answered, as it was logged.
use Rattle.std.specs.Prelude.{ℕ, ◌≡◌, List, [], ◌∷◌, ◌++◌, ◌⊎◌, ⊤, Contains, IsUtf8, replicate}
use Rattle.std.specs.declared.io.ErrorKind.{ErrorKind}
use Rattle.std.specs.declared.io.ErrorKind.TheVariants.{NotFound, AlreadyExists}
use Rattle.m36_outside.specs.NameCalls.{LogsFailure, ReplaceCalls}
use Rattle.m36_outside.specs.Signals.{Signals, GivesUp}
use Rattle.m36_outside.specs.declared.folder.ReadAnswer.{ReadAnswer}
use Rattle.m36_outside.specs.declared.folder.ReadAnswer.TheVariants as read
use Rattle.m36_outside.specs.declared.folder.WriteAnswer.{WriteAnswer}
use Rattle.m36_outside.specs.declared.folder.WriteAnswer.TheVariants as write
use Rattle.m36_outside.specs.declared.lines.Piece.{Piece}
use Rattle.m36_outside.specs.declared.lines.Piece.TheVariants as piece
use Rattle.m36_outside.specs.declared.name_calls.NameCall.{NameCall}
use Rattle.m36_outside.specs.declared.sink.Put.{Put}
use Rattle.m36_outside.specs.declared.sink.Put.TheVariants.{Done, Failed}

-- the separator of directories in a path
abbrev pub slash : ℕ
slash = 47

-- If the put is Done, one entry was added to the log of flushes: these bytes.
abbrev pub NotesDone : Put → List (List ℕ) → List (List ℕ) → List ℕ → Type 0
NotesDone Done old new bytes = new ≡ old ++ bytes ∷ []
NotesDone Failed old new bytes = ⊤

-- Failed: the call of the system gave up. Done: the only errors were interruptions by signals.
abbrev pub PutHasError : Put → List ErrorKind → List ErrorKind → Type 0
PutHasError Done old new = Signals old new
PutHasError Failed old new = GivesUp old new

-- As `PutHasError`, for the answers of an input.
abbrev pub PieceHasError : Piece → List ErrorKind → List ErrorKind → Type 0
PieceHasError (piece.Got count) old new = Signals old new
PieceHasError piece.End old new = Signals old new
PieceHasError piece.Failed old new = GivesUp old new

-- As `PutHasError`, for a file that was opened, which cannot be absent.
abbrev pub OpenHasError : ReadAnswer → List ErrorKind → List ErrorKind → Type 0
OpenHasError (read.Read bytes) old new = Signals old new
OpenHasError read.Absent old new = ⊥
OpenHasError read.TooLarge old new = Signals old new
OpenHasError read.Failed old new = GivesUp old new
OpenHasError read.NoMemory old new = Signals old new

-- A name that is not UTF-8, or that has a slash, names no file of a directory.
abbrev pub NamesNoFile : List ℕ → Type 0
NamesNoFile name = IsUtf8 name → Contains name slash

-- Every other name may be the name of a file.
pub record NamesFile (name : List ℕ) : Type 0 where
  pub text : IsUtf8 name
  pub no_slash : ¬ (Contains name slash)

-- the answer for a file that could not be opened: Absent if it was not found, otherwise Failed
abbrev pub open_refusal_of : ErrorKind → ReadAnswer
open_refusal_of NotFound = read.Absent
open_refusal_of _ = read.Failed

-- A file could not be opened because of one error, and the answer is that for this error.
abbrev pub IsRefused : ReadAnswer → List ErrorKind → List ErrorKind → Type 0
IsRefused answer old new =
    (kind : ErrorKind) × (open_refusal_of kind ≡ answer) × (new ≡ old ++ kind ∷ [])

-- No file was read: a read gave up, or the file could not be opened.
pub record NoFileIsRead (old new : List ErrorKind) : Type 0 where
  pub why : GivesUp old new ⊎ IsRefused read.Failed old new

-- Absent: the name names no file, or the system reported that the file was not found. Failed: no
-- file was read. The other answers are as for a file that was opened.
abbrev pub ReadHasError : ReadAnswer → List ℕ → List ErrorKind → List ErrorKind → Type 0
ReadHasError (read.Read bytes) name old new = OpenHasError (read.Read bytes) old new
ReadHasError read.Absent name old new =
    NamesNoFile name ⊎ IsRefused read.Absent old new
ReadHasError read.TooLarge name old new = OpenHasError read.TooLarge old new
ReadHasError read.Failed name old new = NoFileIsRead old new
ReadHasError read.NoMemory name old new = OpenHasError read.NoMemory old new

-- the answer of the folder to a write, from the answer to the put that wrote the file
abbrev pub write_answer_of : Put → WriteAnswer
write_answer_of Done = write.Written
write_answer_of Failed = write.Failed

-- No file was written: the name names no file; or, after some spare names that files had already,
-- a call failed.
pub record NoFileIsWritten (name : List ℕ) (old new : List ErrorKind) : Type 0 where
  pub why :
      NamesNoFile name ⊎ ((count : ℕ) × LogsFailure (old ++ replicate count AlreadyExists) new)

-- Failed: no file was written. Done: the only errors were refusals of spare names that files had
-- already, and then interruptions by signals.
abbrev pub FileHasError : Put → List ℕ → List ErrorKind → List ErrorKind → Type 0
FileHasError Done name old new =
    (count : ℕ) × Signals (old ++ replicate count AlreadyExists) new
FileHasError Failed name old new = NoFileIsWritten name old new

-- Nothing was logged, or a prefix of the content.
pub record NotesPart (old new : List (List ℕ)) (content : List ℕ) : Type 0 where
  pub why :
      (new ≡ old)
      ⊎ ((part : List ℕ) × (rest : List ℕ) × (content ≡ part ++ rest) × (new ≡ old ++ part ∷ []))

-- what a file that is written has taken: all of the content if it is Done, and otherwise a prefix
-- or nothing
abbrev pub NotesWrite : Put → List (List ℕ) → List (List ℕ) → List ℕ → Type 0
NotesWrite Done old new content = new ≡ old ++ content ∷ []
NotesWrite Failed old new content = NotesPart old new content

-- What the answer of the folder implies for the bytes that the file took. A directory never answers
-- NoMemory to a write.
abbrev pub WriteTakes : WriteAnswer → List (List ℕ) → List (List ℕ) → List ℕ → Type 0
WriteTakes write.Written old new content = NotesWrite Done old new content
WriteTakes write.Failed old new content = NotesWrite Failed old new content
WriteTakes write.NoMemory old new content = ⊥

-- what the answer of the folder to a write implies for the calls that change names
abbrev pub WriteCalls : WriteAnswer → List ℕ → List NameCall → List NameCall → Type 0
WriteCalls write.Written name old new = ReplaceCalls Done name old new
WriteCalls write.Failed name old new = ReplaceCalls Failed name old new
WriteCalls write.NoMemory name old new = ⊥

-- what the answer of the folder to a write implies for the logged errors
abbrev pub WriteHasError : WriteAnswer → List ℕ → List ErrorKind → List ErrorKind → Type 0
WriteHasError write.Written name old new = FileHasError Done name old new
WriteHasError write.Failed name old new = FileHasError Failed name old new
WriteHasError write.NoMemory name old new = ⊥

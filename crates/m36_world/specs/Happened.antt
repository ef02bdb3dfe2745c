-- What each event did to the record of all that is observed of the outside.
use Rattle.std.specs.Prelude.{ℕ, ◌≡◌, ◌≤◌, ◌<◌, ◌^◌, List, [], ◌∷◌, ◌++◌, IfSome}
use Rattle.std.specs.Io.KnownBytes.{IsAtEnd}
use Rattle.m36_outside.specs.Counts.{Rose}
use Rattle.m36_outside.specs.Passing.{TakesSome, joined}
use Rattle.m36_outside.specs.Piece.{prepended}
use Rattle.m36_outside.specs.ReadAnswer.{ReadResult, IsWithinLimit, ReadHasCause}
use Rattle.m36_outside.specs.WriteAnswer.{WriteResult, WriteHasCause}
use Rattle.m36_outside.specs.Written.{appended, GrewWithin}
use Rattle.m36_outside.specs.declared.folder.ReadAnswer.{ReadAnswer}
use Rattle.m36_outside.specs.declared.folder.WriteAnswer.{WriteAnswer}
use Rattle.m36_world.specs.Seen.{Seen, with_event}
use Rattle.m36_world.specs.declared.event.Event.{Event}
use Rattle.m36_world.specs.declared.event.Event.TheVariants.{FileRead, FileWrite, Output}
use Rattle.m36_world.specs.declared.event.Event.TheVariants.{OutputFailed, Input, InputFailed}

-- A file was read, or the read failed. Here and below, `rest` says that everything else is
-- unchanged.
pub record IsFileRead (name : List ℕ) (answer : ReadAnswer) (old new : Seen) : Type 0 where
  pub content : IfSome old.files (λ files. ReadResult answer (files name))
  pub limit : IsWithinLimit answer
  pub cause : ReadHasCause answer old.read_faults new.read_faults
  pub count : old.read_faults ≤ new.read_faults
  pub bound : new.read_faults < 2 ^ 64
  pub rest : new ≡ record (with_event (FileRead name answer) old) {
    reads = old.reads ++ (name, answer) ∷ [];
    read_faults = new.read_faults;
  }

-- A file was written, or the write failed and no file changed.
pub record IsFileWrite (name content : List ℕ) (answer : WriteAnswer) (old new : Seen)
    : Type 0 where
  pub files : WriteResult answer old.files new.files name content
  pub cause : WriteHasCause answer old.write_faults new.write_faults
  pub count : old.write_faults ≤ new.write_faults
  pub bound : new.write_faults < 2 ^ 64
  pub rest : new ≡ record (with_event (FileWrite name content answer) old) {
    writes = old.writes ++ (name, content, answer) ∷ [];
    files = new.files;
    write_faults = new.write_faults;
  }

-- A piece of output was written as a whole.
pub record IsOutput (piece : List ℕ) (old new : Seen) : Type 0 where
  pub bound : new.output_faults < 2 ^ 64
  pub rest : new ≡ record (with_event (Output piece) old) {
    outputs = old.outputs ++ piece ∷ [];
    written = appended piece old.written;
  }

-- Writing pieces of output failed. The output logged some of them and a prefix of the next, and
-- what is written grew by a prefix of their concatenation.
pub record IsOutputFailed (pieces : List (List ℕ)) (old new : Seen) : Type 0 where
  pub took : TakesSome old.outputs new.outputs pieces
  pub grew : GrewWithin old.written new.written (joined pieces)
  pub cause : Rose old.output_faults new.output_faults
  pub count : old.output_faults ≤ new.output_faults
  pub bound : new.output_faults < 2 ^ 64
  pub rest : new ≡ record (with_event (OutputFailed pieces) old) {
    outputs = new.outputs;
    written = new.written;
    output_faults = new.output_faults;
  }

-- A piece of input was consumed. It is empty only if nothing was left.
pub record IsInput (piece : List ℕ) (old new : Seen) : Type 0 where
  pub left : old.left ≡ prepended piece new.left
  pub end : piece ≡ [] → IsAtEnd old.left
  pub bound : new.input_faults < 2 ^ 64
  pub rest : new ≡ record (with_event (Input piece) old) {
    inputs = old.inputs ++ piece ∷ [];
    left = new.left;
  }

-- The input could not be read, and nothing was consumed.
pub record IsInputFailed (old new : Seen) : Type 0 where
  pub cause : Rose old.input_faults new.input_faults
  pub count : old.input_faults ≤ new.input_faults
  pub bound : new.input_faults < 2 ^ 64
  pub rest : new ≡ record (with_event InputFailed old) { input_faults = new.input_faults }

-- what an event did, by its kind
abbrev pub Happened : Event → Seen → Seen → Type 0
Happened (FileRead name answer) old new = IsFileRead name answer old new
Happened (FileWrite name content answer) old new = IsFileWrite name content answer old new
Happened (Output piece) old new = IsOutput piece old new
Happened (OutputFailed pieces) old new = IsOutputFailed pieces old new
Happened (Input piece) old new = IsInput piece old new
Happened InputFailed old new = IsInputFailed old new

-- What holds for the events of every program. Nothing happens after a failed call or one that ran
-- out of memory, and the result is that failure. Files are written and input is taken only if the
-- program may do so.
use Rattle.std.specs.Prelude.{ℕ, ◌≡◌, ◌⊎◌, true, ⊤, List, [], ◌∷◌, ◌++◌, Result, Ok, Err}
use Rattle.m36_outside.specs.Counts.{Rose}
use Rattle.m36_outside.specs.SinkState.{SinkState}
use Rattle.m36_outside.specs.declared.sink.Put.{Put}
use Rattle.m36_outside.specs.declared.sink.Put.TheVariants.{Done, Failed}
use Rattle.m36_world.specs.Seen.{Seen}
use Rattle.m36_world.specs.declared.event.Event.{Event}
use Rattle.m36_world.specs.declared.event.Event.TheVariants.{FileRead, FileWrite, Output}
use Rattle.m36_world.specs.declared.event.Event.TheVariants.{OutputFailed, Input, InputFailed}
use Rattle.m36_status.specs.declared.status.Status.{Status}
use Rattle.m36_status.specs.declared.status.Status.TheVariants as status
use Rattle.m36_program.specs.Program.{May}
use Rattle.m36_program.specs.Goes.{Ends, AfterRead, AfterWrite}

-- The result does not come from a failed call.
abbrev pub IsWithoutFailure : {A : Type 0} → Result A Status → Type 0
IsWithoutFailure (Ok a) = ⊤
IsWithoutFailure (Err status.Done) = ⊥
IsWithoutFailure (Err status.Usage) = ⊥
IsWithoutFailure (Err status.ReadFault) = ⊥
IsWithoutFailure (Err status.WriteFault) = ⊥
IsWithoutFailure (Err (status.BadFile bad)) = ⊤
IsWithoutFailure (Err status.AuditNo) = ⊤
IsWithoutFailure (Err (status.MachineStop end)) = ⊤
IsWithoutFailure (Err status.Steps) = ⊤
IsWithoutFailure (Err status.NoMemory) = ⊤

-- What holds for the events and the result of every program that may do `may`.
abbrev pub MayHappen : {A : Type 0} → May → List Event → Result A Status → Type 0
MayHappen may [] result = IsWithoutFailure result
MayHappen may (FileRead name answer ∷ more) result =
    AfterRead answer (λ found events. MayHappen may more result) more result
MayHappen may (FileWrite name content answer ∷ more) result =
    (may.writes ≡ true) × AfterWrite answer (λ events. MayHappen may more result) more result
MayHappen may (Output piece ∷ more) result = MayHappen may more result
MayHappen may (OutputFailed pieces ∷ more) result = Ends (Err status.WriteFault) more result
MayHappen may (Input piece ∷ more) result = (may.takes ≡ true) × MayHappen may more result
MayHappen may (InputFailed ∷ more) result =
    (may.takes ≡ true) × Ends (Err status.ReadFault) more result

-- ---- counts of faults

-- all counts of faults are unchanged
pub record NoneFailed (old new : Seen) : Type 0 where
  pub reads : new.read_faults ≡ old.read_faults
  pub writes : new.write_faults ≡ old.write_faults
  pub outputs : new.output_faults ≡ old.output_faults
  pub inputs : new.input_faults ≡ old.input_faults

-- A read of a file failed: the count of these faults rose, and the other counts are unchanged.
pub record ReadFailed (old new : Seen) : Type 0 where
  pub reads : Rose old.read_faults new.read_faults
  pub writes : new.write_faults ≡ old.write_faults
  pub outputs : new.output_faults ≡ old.output_faults
  pub inputs : new.input_faults ≡ old.input_faults

-- A write of a file failed: only the count of these faults rose.
pub record WriteFailed (old new : Seen) : Type 0 where
  pub reads : new.read_faults ≡ old.read_faults
  pub writes : Rose old.write_faults new.write_faults
  pub outputs : new.output_faults ≡ old.output_faults
  pub inputs : new.input_faults ≡ old.input_faults

-- A put of output failed: only the count of these faults rose.
pub record PutFailed (old new : Seen) : Type 0 where
  pub reads : new.read_faults ≡ old.read_faults
  pub writes : new.write_faults ≡ old.write_faults
  pub outputs : Rose old.output_faults new.output_faults
  pub inputs : new.input_faults ≡ old.input_faults

-- Taking input failed: only the count of these faults rose.
pub record TakeFailed (old new : Seen) : Type 0 where
  pub reads : new.read_faults ≡ old.read_faults
  pub writes : new.write_faults ≡ old.write_faults
  pub outputs : new.output_faults ≡ old.output_faults
  pub inputs : Rose old.input_faults new.input_faults

-- The result has its cause in the counts of faults: for ReadFault and WriteFault one of them rose,
-- and for every other result all are unchanged.
abbrev pub HasCause : {A : Type 0} → Result A Status → Seen → Seen → Type 0
HasCause (Ok a) old new = NoneFailed old new
HasCause (Err status.Done) old new = NoneFailed old new
HasCause (Err status.Usage) old new = NoneFailed old new
HasCause (Err status.ReadFault) old new = ReadFailed old new ⊎ TakeFailed old new
HasCause (Err status.WriteFault) old new = WriteFailed old new ⊎ PutFailed old new
HasCause (Err (status.BadFile bad)) old new = NoneFailed old new
HasCause (Err status.AuditNo) old new = NoneFailed old new
HasCause (Err (status.MachineStop end)) old new = NoneFailed old new
HasCause (Err status.Steps) old new = NoneFailed old new
HasCause (Err status.NoMemory) old new = NoneFailed old new

-- ---- files and input

-- No file changed, and no write was tried.
pub record FilesKept (old new : Seen) : Type 0 where
  pub files : new.files ≡ old.files
  pub writes : new.writes ≡ old.writes
  pub faults : new.write_faults ≡ old.write_faults

-- No input was requested.
pub record InputKept (old new : Seen) : Type 0 where
  pub left : new.left ≡ old.left
  pub inputs : new.inputs ≡ old.inputs
  pub faults : new.input_faults ≡ old.input_faults

-- ---- output

-- the pieces of output, in order, with those of a call that failed
abbrev pub pieces_of : List Event → List (List ℕ)
pieces_of [] = []
pieces_of (FileRead name answer ∷ events) = pieces_of events
pieces_of (FileWrite name content answer ∷ events) = pieces_of events
pieces_of (Output piece ∷ events) = piece ∷ pieces_of events
pieces_of (OutputFailed pieces ∷ events) = pieces ++ pieces_of events
pieces_of (Input piece ∷ events) = pieces_of events
pieces_of (InputFailed ∷ events) = pieces_of events

-- Failed if a call of the output failed among these events, otherwise Done
abbrev pub put_answer_of : List Event → Put
put_answer_of [] = Done
put_answer_of (FileRead name answer ∷ events) = put_answer_of events
put_answer_of (FileWrite name content answer ∷ events) = put_answer_of events
put_answer_of (Output piece ∷ events) = put_answer_of events
put_answer_of (OutputFailed pieces ∷ events) = Failed
put_answer_of (Input piece ∷ events) = put_answer_of events
put_answer_of (InputFailed ∷ events) = put_answer_of events

-- what is observed of the output of a world, as the state of a sink
abbrev pub output_of : Seen → SinkState
output_of seen =
    record { written = seen.written; taken = seen.outputs; faults = seen.output_faults }

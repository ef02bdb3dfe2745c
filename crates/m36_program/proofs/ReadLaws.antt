-- Calls of a world perform programs of one step.
use Rattle.std.proofs.Common.{◌≡◌, ℕ, true, List, [], ◌∷◌, Result, Ok, Err, refl, ap, inl, inr}
use Rattle.m36_outside.specs.declared.folder.ReadAnswer.{ReadAnswer}
use Rattle.m36_outside.specs.declared.folder.ReadAnswer.TheVariants as read
use Rattle.m36_outside.specs.declared.folder.WriteAnswer.TheVariants as write
use Rattle.m36_world.specs.declared.event.Event.TheVariants.{FileRead, FileWrite, Output, OutputFailed}
use Rattle.m36_world.specs.Seen.{Seen}
use Rattle.m36_world.specs.Happened.{IsFileRead, IsFileWrite, IsOutput, IsOutputFailed}
use Rattle.m36_status.specs.declared.status.Bad.{Bad}
use Rattle.m36_status.specs.declared.status.Code.TheVariants as code
use Rattle.m36_status.specs.declared.status.Status.{Status}
use Rattle.m36_status.specs.declared.status.Status.TheVariants.{ReadFault, WriteFault}
use Rattle.m36_status.specs.declared.status.Status.TheVariants.{BadFile}
use Rattle.m36_status.specs.declared.status.Status.TheVariants.{NoMemory}
use Rattle.m36_program.specs.Program.{Found, May, Program, reads}
use Rattle.m36_program.specs.Goes.{AfterRead, Goes}
use Rattle.m36_program.specs.Performs.{Performs}
use Rattle.m36_program.specs.Readers.{bad_file, refuses, IsRefusal, file_bytes, put_one, write_one}
use Rattle.m36_world.proofs.Following.{follow_one}

-- ---- a refusal

pub goes_refused :
    (may : May) (A : Type 0) (status : Status) (bad : Bad) → IsRefusal status bad
    → Goes {may = may} {A = A} (refuses bad) [] (Err status)
unfolding Goes refuses
goes_refused may A (BadFile given) bad is =
    inl (record { none = refl; result_is = ap (λ (b : Bad). Err (BadFile b)) is })
goes_refused may A NoMemory bad is = inr (record { none = refl; result_is = refl })
goes_refused may A _ bad is = absurd is

-- ---- a file is read

pub performs_read :
    {may : May} {A : Type 0} (name : List ℕ) (go : Found → Program may A) (answer : ReadAnswer)
    (result : Result A Status) (old new : Seen)
    → IsFileRead name answer old new → AfterRead answer (λ found more. Goes (go found) more result) [] result
    → Performs (reads name go) result old new
unfolding Goes
performs_read name go answer result old new did after = record {
  events = FileRead name answer ∷ [];
  follow = follow_one (FileRead name answer) old new did;
  goes = record { answer = answer; more = []; first = refl; rest = after };
}

pub bytes_read :
    (may : May) (name bytes : List ℕ) (old new : Seen) → IsFileRead name (read.Read bytes) old new
    → Performs {may = may} (file_bytes name) (Ok bytes) old new
unfolding Goes file_bytes
bytes_read may name bytes old new did =
    performs_read name _ (read.Read bytes) (Ok bytes) old new did (record { none = refl; result_is = refl })

pub bytes_absent :
    (may : May) (name : List ℕ) (status : Status) (old new : Seen)
    → IsFileRead name read.Absent old new → IsRefusal status (bad_file name code.F1 0)
    → Performs {may = may} (file_bytes name) (Err status) old new
unfolding file_bytes
bytes_absent may name status old new did is =
    performs_read name _ read.Absent (Err status) old new did
    (goes_refused may (List ℕ) status (bad_file name code.F1 0) is)

pub bytes_large :
    (may : May) (name : List ℕ) (status : Status) (old new : Seen)
    → IsFileRead name read.TooLarge old new → IsRefusal status (bad_file name code.F2 0)
    → Performs {may = may} (file_bytes name) (Err status) old new
unfolding file_bytes
bytes_large may name status old new did is =
    performs_read name _ read.TooLarge (Err status) old new did
    (goes_refused may (List ℕ) status (bad_file name code.F2 0) is)

pub bytes_failed :
    (may : May) (name : List ℕ) (old new : Seen) → IsFileRead name read.Failed old new
    → Performs {may = may} (file_bytes name) (Err ReadFault) old new
unfolding file_bytes
bytes_failed may name old new did =
    performs_read name _ read.Failed (Err ReadFault) old new did (record { none = refl; result_is = refl })

pub bytes_no_memory :
    (may : May) (name : List ℕ) (old new : Seen) → IsFileRead name read.NoMemory old new
    → Performs {may = may} (file_bytes name) (Err NoMemory) old new
unfolding file_bytes
bytes_no_memory may name old new did =
    performs_read name _ read.NoMemory (Err NoMemory) old new did (record { none = refl; result_is = refl })

-- what a function that reads the bytes of a file takes by `using`
pub ruleset reading = (bytes_read, bytes_absent, bytes_large, bytes_failed, bytes_no_memory)

-- ---- a piece is put

pub one_put :
    (may : May) (piece : List ℕ) (old new : Seen) → IsOutput piece old new
    → Performs {may = may} (put_one piece) (Ok tt) old new
unfolding Goes put_one
one_put may piece old new did = record {
  events = Output piece ∷ [];
  follow = follow_one (Output piece) old new did;
  goes = inl (record { more = []; first = refl; rest = record { none = refl; result_is = refl } });
}

pub one_failed :
    (may : May) (piece : List ℕ) (old new : Seen) → IsOutputFailed (piece ∷ []) old new
    → Performs {may = may} (put_one piece) (Err WriteFault) old new
unfolding Goes put_one
one_failed may piece old new did = record {
  events = OutputFailed (piece ∷ []) ∷ [];
  follow = follow_one (OutputFailed (piece ∷ [])) old new did;
  goes = inr (record { pieces = []; only = refl; rest = refl });
}

pub ruleset putting = (one_put, one_failed)

-- ---- a file is written

pub one_written :
    (may : May) (allowed : may.writes ≡ true) (name content : List ℕ) (old new : Seen)
    → IsFileWrite name content write.Written old new
    → Performs {may = may} (write_one allowed name content) (Ok tt) old new
unfolding Goes write_one
one_written may allowed name content old new did = record {
  events = FileWrite name content write.Written ∷ [];
  follow = follow_one (FileWrite name content write.Written) old new did;
  goes = record { answer = write.Written; more = []; first = refl; rest = record { none = refl; result_is = refl } };
}

pub one_unwritten :
    (may : May) (allowed : may.writes ≡ true) (name content : List ℕ) (old new : Seen)
    → IsFileWrite name content write.Failed old new
    → Performs {may = may} (write_one allowed name content) (Err WriteFault) old new
unfolding Goes write_one
one_unwritten may allowed name content old new did = record {
  events = FileWrite name content write.Failed ∷ [];
  follow = follow_one (FileWrite name content write.Failed) old new did;
  goes = record { answer = write.Failed; more = []; first = refl; rest = record { none = refl; result_is = refl } };
}

pub one_no_memory :
    (may : May) (allowed : may.writes ≡ true) (name content : List ℕ) (old new : Seen)
    → IsFileWrite name content write.NoMemory old new
    → Performs {may = may} (write_one allowed name content) (Err NoMemory) old new
unfolding Goes write_one
one_no_memory may allowed name content old new did = record {
  events = FileWrite name content write.NoMemory ∷ [];
  follow = follow_one (FileWrite name content write.NoMemory) old new did;
  goes = record { answer = write.NoMemory; more = []; first = refl; rest = record { none = refl; result_is = refl } };
}

pub ruleset writing = (one_written, one_unwritten, one_no_memory)

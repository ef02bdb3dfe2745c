-- What holds for every call that performs a program.
use Rattle.std.proofs.Common.{◌≡◌, false, List, [], ◌∷◌, Result, Err, refl, sym, subst}
use Rattle.m36_outside.specs.Putting.{PutsPieces}
use Rattle.m36_outside.specs.declared.folder.ReadAnswer.{ReadAnswer}
use Rattle.m36_outside.specs.declared.folder.ReadAnswer.TheVariants as read
use Rattle.m36_outside.specs.declared.folder.WriteAnswer.{WriteAnswer}
use Rattle.m36_outside.specs.declared.folder.WriteAnswer.TheVariants as write
use Rattle.m36_world.specs.declared.event.Event.{Event}
use Rattle.m36_world.specs.declared.event.Event.TheVariants.{FileRead, FileWrite, Output, OutputFailed, Input}
use Rattle.m36_world.specs.declared.event.Event.TheVariants.{InputFailed}
use Rattle.m36_world.specs.Seen.{Seen}
use Rattle.m36_status.specs.declared.status.Status.{Status}
use Rattle.m36_status.specs.declared.status.Status.TheVariants as status
use Rattle.m36_program.specs.Program.{May, Program}
use Rattle.m36_program.specs.Goes.{Ends, AfterRead, AfterWrite, Goes}
use Rattle.m36_program.specs.Performs.{Performs}
use Rattle.m36_program.specs.Early.{IsProgramResult, result_of_status, status_of_result, MayEnd, ends}
use Rattle.m36_program.specs.MayHappen.{IsWithoutFailure, MayHappen, HasCause, FilesKept, InputKept, pieces_of, put_answer_of, output_of}
use Rattle.m36_program.proofs.TrailLaws.{goes_trail}
use Rattle.m36_program.proofs.CauseLaws.{trail_cause}
use Rattle.m36_program.proofs.KeptLaws.{trail_files, trail_input}
use Rattle.m36_program.proofs.TextLaws.{follow_text}

pub performs_cause :
    {may : May} {A : Type 0} (p : Program may A) (result : Result A Status) (old new : Seen) → Performs p result old new
    → HasCause result old new
performs_cause {may = may} p result old new performs =
    trail_cause may performs.events result old new (goes_trail p performs.events result performs.goes) performs.follow

pub performs_files :
    {may : May} {A : Type 0} (p : Program may A) (result : Result A Status) (old new : Seen)
    → may.writes ≡ false → Performs p result old new → FilesKept old new
performs_files {may = may} p result old new never performs =
    trail_files may performs.events result old new never
    (goes_trail p performs.events result performs.goes) performs.follow

pub performs_input :
    {may : May} {A : Type 0} (p : Program may A) (result : Result A Status) (old new : Seen)
    → may.takes ≡ false → Performs p result old new → InputKept old new
performs_input {may = may} p result old new never performs =
    trail_input may performs.events result old new never
    (goes_trail p performs.events result performs.goes) performs.follow

pub performs_text :
    {may : May} {A : Type 0} (p : Program may A) (result : Result A Status) (old new : Seen)
    (performs : Performs p result old new)
    → PutsPieces (put_answer_of performs.events) (pieces_of performs.events) (output_of old) (output_of new)
performs_text {may = may} p result old new performs =
    follow_text may performs.events result old new (goes_trail p performs.events result performs.goes) performs.follow

-- ---- statuses that cannot occur

unfailed_given : {A : Type 0} (result : Result A Status) → IsWithoutFailure result → IsProgramResult result
unfailed_given (Err status.Done) is = absurd is
unfailed_given (Err status.Usage) is = absurd is
unfailed_given _ is = tt

ended_given :
    {A : Type 0} (value : Result A Status) (more : List Event) (result : Result A Status) → IsProgramResult value
    → Ends value more result → IsProgramResult result
ended_given {A} value more result given ends = subst (IsProgramResult {A = A}) (sym ends.result_is) given

read_given :
    {A : Type 0} (answer : ReadAnswer) (goes : Type 0) (more : List Event) (result : Result A Status)
    → (goes → IsProgramResult result) → AfterRead answer (λ found events. goes) more result → IsProgramResult result
read_given (read.Read bytes) goes more result on after = on after
read_given read.Absent goes more result on after = on after
read_given read.TooLarge goes more result on after = on after
read_given {A} read.Failed goes more result on after = ended_given {A = A} (Err status.ReadFault) more result tt after
read_given {A} read.NoMemory goes more result on after = ended_given {A = A} (Err status.NoMemory) more result tt after

write_given :
    {A : Type 0} (answer : WriteAnswer) (goes : Type 0) (more : List Event) (result : Result A Status)
    → (goes → IsProgramResult result) → AfterWrite answer (λ events. goes) more result → IsProgramResult result
write_given write.Written goes more result on after = on after
write_given {A} write.Failed goes more result on after =
    ended_given {A = A} (Err status.WriteFault) more result tt after
write_given {A} write.NoMemory goes more result on after =
    ended_given {A = A} (Err status.NoMemory) more result tt after

trail_given :
    {A : Type 0} (may : May) (events : List Event) (result : Result A Status) → MayHappen may events result → IsProgramResult result
trail_given may [] result trail = unfailed_given result trail
trail_given may (FileRead name answer ∷ more) result trail =
    read_given answer (MayHappen may more result) more result (λ on. trail_given may more result on) trail
trail_given may (FileWrite name content answer ∷ more) result trail =
    write_given answer (MayHappen may more result) more result (λ on. trail_given may more result on) trail.1
trail_given may (Output piece ∷ more) result trail = trail_given may more result trail
trail_given {A} may (OutputFailed pieces ∷ more) result trail =
    ended_given {A = A} (Err status.WriteFault) more result tt trail
trail_given may (Input piece ∷ more) result trail = trail_given may more result trail.1
trail_given {A} may (InputFailed ∷ more) result trail =
    ended_given {A = A} (Err status.ReadFault) more result tt trail.1

-- A call has a value instead of Done, and never Usage.
pub performs_given :
    {may : May} {A : Type 0} (p : Program may A) (result : Result A Status) (old new : Seen) → Performs p result old new
    → IsProgramResult result
performs_given {may = may} p result old new performs =
    trail_given may performs.events result (goes_trail p performs.events result performs.goes)

-- ---- statuses and results

pub early_given : (result : Result (Unit {0}) Status) → IsProgramResult result → result_of_status (status_of_result result) ≡ result
early_given (Err status.Done) given = absurd given
early_given _ given = refl

-- a call of a whole command, by its status
pub performs_early :
    {may : May} (p : Program may (Unit {0})) (result : Result (Unit {0}) Status) (old new : Seen)
    → Performs p result old new → Performs p (result_of_status (status_of_result result)) old new
performs_early p result old new performs =
    subst (λ r. Performs p r old new) (sym (early_given result (performs_given p result old new performs))) performs

-- the end of a program with a status
pub goes_ends : (may : May) (s : Status) (own : MayEnd s) → Goes {may = may} (ends s own) [] (result_of_status s)
unfolding Goes ends
goes_ends may status.Usage own = absurd own
goes_ends may status.ReadFault own = absurd own
goes_ends may status.WriteFault own = absurd own
goes_ends may status.NoMemory own = absurd own
goes_ends may _ own = record { none = refl; result_is = refl }

-- Which events and which result a program can have. Each kind of step has a record of its own, so
-- that a proof over programs has one case for each.
use Rattle.std.specs.Prelude.{ℕ, ◌≡◌, ◌⊎◌, List, [], ◌∷◌, Result, Ok, Err}
use Rattle.m36_outside.specs.declared.folder.ReadAnswer.{ReadAnswer}
use Rattle.m36_outside.specs.declared.folder.ReadAnswer.TheVariants as read
use Rattle.m36_outside.specs.declared.folder.WriteAnswer.{WriteAnswer}
use Rattle.m36_outside.specs.declared.folder.WriteAnswer.TheVariants as write
use Rattle.m36_world.specs.declared.event.Event.{Event}
use Rattle.m36_world.specs.declared.event.Event.TheVariants.{FileRead, FileWrite, Output}
use Rattle.m36_world.specs.declared.event.Event.TheVariants.{OutputFailed, Input, InputFailed}
use Rattle.m36_status.specs.declared.status.Status.{Status}
use Rattle.m36_status.specs.declared.status.Status.TheVariants.{ReadFault, WriteFault, NoMemory}
use Rattle.m36_program.specs.Program.{Found, Content, Absent, TooLarge, May, Program}
use Rattle.m36_program.specs.Program.{done, stops, reads, writes, puts, takes, some, wants}

-- There are no more events, and the result is `value`.
pub record Ends {A : Type 0} (value : Result A Status) (events : List Event)
    (result : Result A Status) : Type 0 where
  pub none : events ≡ []
  pub result_is : result ≡ value

-- ---- reading

-- A program continues by what was found. A failed read ends it, and so does running out of memory.
abbrev pub AfterRead :
    {A : Type 0} → ReadAnswer → (Found → List Event → Type 0) → List Event → Result A Status
    → Type 0
AfterRead (read.Read bytes) goes more result = goes (Content bytes) more
AfterRead read.Absent goes more result = goes Absent more
AfterRead read.TooLarge goes more result = goes TooLarge more
AfterRead read.Failed goes more result = Ends (Err ReadFault) more result
AfterRead read.NoMemory goes more result = Ends (Err NoMemory) more result

-- The first event is the read of this file.
pub record NextRead {A : Type 0} (name : List ℕ) (goes : Found → List Event → Type 0)
    (events : List Event) (result : Result A Status) : Type 0 where
  pub answer : ReadAnswer
  pub more : List Event
  pub first : events ≡ FileRead name answer ∷ more
  pub rest : AfterRead answer goes more result

-- ---- writing

-- A program continues if the file was written. A failed write ends it, and so does running out of
-- memory.
abbrev pub AfterWrite :
    {A : Type 0} → WriteAnswer → (List Event → Type 0) → List Event → Result A Status → Type 0
AfterWrite write.Written goes more result = goes more
AfterWrite write.Failed goes more result = Ends (Err WriteFault) more result
AfterWrite write.NoMemory goes more result = Ends (Err NoMemory) more result

-- The first event is the write of this file.
pub record NextWrite {A : Type 0} (name content : List ℕ) (goes : List Event → Type 0)
    (events : List Event) (result : Result A Status) : Type 0 where
  pub answer : WriteAnswer
  pub more : List Event
  pub first : events ≡ FileWrite name content answer ∷ more
  pub rest : AfterWrite answer goes more result

-- ---- putting

-- The first event is the output of this piece, as a whole.
pub record NextOutput (piece : List ℕ) (goes : List Event → Type 0) (events : List Event)
    : Type 0 where
  pub more : List Event
  pub first : events ≡ Output piece ∷ more
  pub rest : goes more

-- What holds for the other pieces of the call that failed: there are none, or the program puts them
-- next and fails in the same call.
abbrev pub FailsWith :
    {A : Type 0} → List (List ℕ) → (List Event → Type 0) → Result A Status → Type 0
FailsWith [] goes result = result ≡ Err WriteFault
FailsWith (piece ∷ pieces) goes result = goes (OutputFailed (piece ∷ pieces) ∷ [])

-- The output fails in a call for this piece, and perhaps for some of those that the program puts
-- next.
pub record FailedOutput {A : Type 0} (piece : List ℕ) (goes : List Event → Type 0)
    (events : List Event) (result : Result A Status) : Type 0 where
  pub pieces : List (List ℕ)
  pub only : events ≡ OutputFailed (piece ∷ pieces) ∷ []
  pub rest : FailsWith pieces goes result

-- ---- taking

-- The first event is a piece of input.
pub record NextInput (goes : List ℕ → List Event → Type 0) (events : List Event) : Type 0 where
  pub piece : List ℕ
  pub more : List Event
  pub first : events ≡ Input piece ∷ more
  pub rest : goes piece more

-- The only event is that the input failed, and the result is ReadFault.
pub record FailedInput {A : Type 0} (events : List Event) (result : Result A Status) : Type 0 where
  pub only : events ≡ InputFailed ∷ []
  pub result_is : result ≡ Err ReadFault

-- ---- choosing

-- Some value has the property `Is`, and the program continues with it.
pub record Chosen {B : Type 0} (Is goes : B → Type 0) : Type 0 where
  pub value : B
  pub is : Is value
  pub rest : goes value

-- ---- a program

-- The program can produce exactly these events, in this order, and end with this result.
unfoldable pub Goes :
    {may : May} {A : Type 0} → Program may A → List Event → Result A Status → Type 0
Goes (done a) events result = Ends (Ok a) events result
Goes (stops status own) events result = Ends (Err status) events result
Goes (reads name go) events result =
    NextRead name (λ found more. Goes (go found) more result) events result
Goes (writes allowed name content rest) events result =
    NextWrite name content (λ more. Goes rest more result) events result
Goes (puts piece rest) events result =
    NextOutput piece (λ more. Goes rest more result) events
    ⊎ FailedOutput piece (λ more. Goes rest more result) events result
Goes (takes allowed go) events result =
    NextInput (λ piece more. Goes (go piece) more result) events ⊎ FailedInput events result
Goes (some Is go) events result = Chosen Is (λ b. Goes (go b) events result)
Goes (wants rest) events result = Goes rest events result ⊎ Ends (Err NoMemory) events result

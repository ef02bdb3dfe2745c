-- Programs that put one text. Two programs are alike if they read and write the same files, put
-- the same pieces and take the same input, in the same order, and end with the same value or
-- status, whatever values they choose. A program that is alike to itself has one text.
use Rattle.std.specs.Prelude.{ℕ, ◌≡◌, ⊤, List, [], ◌∷◌, ◌++◌, Result, Ok, Err}
use Rattle.std.specs.List.{flat_map}
use Rattle.m36_world.specs.Logs.{input_of}
use Rattle.m36_world.specs.declared.event.Event.{Event}
use Rattle.m36_status.specs.declared.status.Status.{Status}
use Rattle.m36_program.specs.Program.{Found, May, IsOwnStatus, Program}
use Rattle.m36_program.specs.Program.{done, stops, reads, writes, puts, takes, some, wants}

-- The second program ends without another step, with this value or status, whatever it chooses.
abbrev pub EndsAlike : {may : May} {A : Type 0} → Result A Status → Program may A → Type 0
EndsAlike value (done a) = value ≡ Ok a
EndsAlike value (stops status own) = value ≡ Err status
EndsAlike value (reads name go) = ⊥
EndsAlike value (writes allowed name content rest) = ⊥
EndsAlike value (puts piece rest) = ⊥
EndsAlike value (takes allowed go) = ⊥
EndsAlike {may} {A} value (some {B} Is go) = (b : B) → Is b → EndsAlike value (go b)
EndsAlike value (wants rest) = EndsAlike value rest

-- The second program first reads the file with this name too; `alike` holds for what follows,
-- whatever is found.
abbrev pub ReadsAlike :
    {may : May} {A : Type 0} → List ℕ → (Found → Program may A → Type 0) → Program may A → Type 0
ReadsAlike name alike (done a) = ⊥
ReadsAlike name alike (stops status own) = ⊥
ReadsAlike name alike (reads other go) = (name ≡ other) × ((found : Found) → alike found (go found))
ReadsAlike name alike (writes allowed other content rest) = ⊥
ReadsAlike name alike (puts piece rest) = ⊥
ReadsAlike name alike (takes allowed go) = ⊥
ReadsAlike {may} {A} name alike (some {B} Is go) = (b : B) → Is b → ReadsAlike name alike (go b)
ReadsAlike name alike (wants rest) = ReadsAlike name alike rest

-- The second program first writes the same file with the same content; `alike` holds for the rest.
abbrev pub WritesAlike :
    {may : May} {A : Type 0} → List ℕ → List ℕ → (Program may A → Type 0) → Program may A → Type 0
WritesAlike name content alike (done a) = ⊥
WritesAlike name content alike (stops status own) = ⊥
WritesAlike name content alike (reads other go) = ⊥
WritesAlike name content alike (writes allowed other others rest) =
    (name ≡ other) × (content ≡ others) × alike rest
WritesAlike name content alike (puts piece rest) = ⊥
WritesAlike name content alike (takes allowed go) = ⊥
WritesAlike {may} {A} name content alike (some {B} Is go) =
    (b : B) → Is b → WritesAlike name content alike (go b)
WritesAlike name content alike (wants rest) = WritesAlike name content alike rest

-- The second program first puts the same piece; `alike` holds for the rest.
abbrev pub PutsAlike :
    {may : May} {A : Type 0} → List ℕ → (Program may A → Type 0) → Program may A → Type 0
PutsAlike piece alike (done a) = ⊥
PutsAlike piece alike (stops status own) = ⊥
PutsAlike piece alike (reads name go) = ⊥
PutsAlike piece alike (writes allowed name content rest) = ⊥
PutsAlike piece alike (puts other rest) = (piece ≡ other) × alike rest
PutsAlike piece alike (takes allowed go) = ⊥
PutsAlike {may} {A} piece alike (some {B} Is go) = (b : B) → Is b → PutsAlike piece alike (go b)
PutsAlike piece alike (wants rest) = PutsAlike piece alike rest

-- The second program first takes input too; `alike` holds for what follows, whatever piece it
-- takes.
abbrev pub TakesAlike :
    {may : May} {A : Type 0} → (List ℕ → Program may A → Type 0) → Program may A → Type 0
TakesAlike alike (done a) = ⊥
TakesAlike alike (stops status own) = ⊥
TakesAlike alike (reads name go) = ⊥
TakesAlike alike (writes allowed name content rest) = ⊥
TakesAlike alike (puts piece rest) = ⊥
TakesAlike alike (takes allowed go) = (piece : List ℕ) → alike piece (go piece)
TakesAlike {may} {A} alike (some {B} Is go) = (b : B) → Is b → TakesAlike alike (go b)
TakesAlike alike (wants rest) = TakesAlike alike rest

-- The second program is like the first, step by step.
unfoldable pub Alike : {may : May} {A : Type 0} → Program may A → Program may A → Type 0
Alike (done a) other = EndsAlike (Ok a) other
Alike (stops status own) other = EndsAlike (Err status) other
Alike (reads name go) other = ReadsAlike name (λ found next. Alike (go found) next) other
Alike (writes allowed name content rest) other =
    WritesAlike name content (λ next. Alike rest next) other
Alike (puts piece rest) other = PutsAlike piece (λ next. Alike rest next) other
Alike (takes allowed go) other = TakesAlike (λ piece next. Alike (go piece) next) other
Alike {may} {A} (some {B} Is go) other = (b : B) → Is b → Alike (go b) other
Alike (wants rest) other = Alike rest other

-- ---- one text

-- The result is a value, or a status that a program itself stops with.
abbrev pub IsEnd : {A : Type 0} → Result A Status → Type 0
IsEnd (Ok a) = ⊤
IsEnd (Err status) = IsOwnStatus status

-- The pieces `first` are a prefix of the list `all`. If the call that put them ended, they are all
-- of them, and the results are equal.
pub record OneText {A : Type 0} (first all : List (List ℕ)) (result end : Result A Status)
    : Type 0 where
  pub left : List (List ℕ)
  pub is : all ≡ first ++ left
  pub ended : IsEnd result → (left ≡ []) × (result ≡ end)

-- the pieces of input that were taken, in order
abbrev pub inputs_of : List Event → List (List ℕ)
inputs_of events = flat_map input_of events

-- The pieces of input are the same, as far as both calls took any.
abbrev pub SameInput : List (List ℕ) → List (List ℕ) → Type 0
SameInput [] others = ⊤
SameInput (piece ∷ pieces) [] = ⊤
SameInput (piece ∷ pieces) (other ∷ others) = (piece ≡ other) × SameInput pieces others

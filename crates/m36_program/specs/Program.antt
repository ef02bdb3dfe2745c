-- Programs: what a command does to the outside.
use Rattle.std.specs.Prelude.{ℕ, ◌≡◌, Bool, true, false, ⊤, List, [], ◌∷◌}
use Rattle.m36_status.specs.declared.status.Status.{Status}
use Rattle.m36_status.specs.declared.status.Status.TheVariants as status

-- what a program may do besides reading files and putting output
pub record May : Type 0 where
  -- write files
  pub writes : Bool
  -- take input
  pub takes : Bool

-- what a program may do that writes no file and takes no input
abbrev pub quiet : May
quiet = record { writes = false; takes = false }

-- what a folder has under a name
pub data Found : Type 0 where
  Content : List ℕ → Found
  Absent : Found
  TooLarge : Found

-- A status that a program itself stops with. Not so: Done, for which a program has its value; the
-- statuses of failed calls and of failed allocations; and Usage, since words that are no command
-- have no program.
abbrev pub IsOwnStatus : Status → Type 0
IsOwnStatus status.Done = ⊥
IsOwnStatus status.Usage = ⊥
IsOwnStatus status.ReadFault = ⊥
IsOwnStatus status.WriteFault = ⊥
IsOwnStatus (status.BadFile bad) = ⊤
IsOwnStatus status.AuditNo = ⊤
IsOwnStatus (status.MachineStop end) = ⊤
IsOwnStatus status.Steps = ⊤
IsOwnStatus status.NoMemory = ⊥

-- What is done, step by step, until there is a value or a status.
pub data Program (may : May) (A : Type 0) : Type 1 where
  -- ends with a value
  done : A → Program may A
  -- ends with a status
  stops : (status : Status) → IsOwnStatus status → Program may A
  -- reads the file with a name, and continues by what is found
  reads : List ℕ → (Found → Program may A) → Program may A
  -- writes the file with a name: its content
  writes : may.writes ≡ true → List ℕ → List ℕ → Program may A → Program may A
  -- puts a piece of output
  puts : List ℕ → Program may A → Program may A
  -- takes a piece of input, and continues by it; an empty piece is the end of the input
  takes : may.takes ≡ true → (List ℕ → Program may A) → Program may A
  -- continues by some value with a property
  some : {B : Type 0} → (B → Type 0) → (B → Program may A) → Program may A
  -- memory may run out here
  wants : Program may A → Program may A

-- one program after another, which gets the value of the first
unfoldable pub then_with : {may : May} {A B : Type 0} → Program may A → (A → Program may B)
    → Program may B
then_with (done a) next = next a
then_with (stops status own) next = stops status own
then_with (reads name go) next = reads name (λ found. then_with (go found) next)
then_with (writes allowed name content rest) next =
    writes allowed name content (then_with rest next)
then_with (puts piece rest) next = puts piece (then_with rest next)
then_with (takes allowed go) next = takes allowed (λ piece. then_with (go piece) next)
then_with (some Is go) next = some Is (λ b. then_with (go b) next)
then_with (wants rest) next = wants (then_with rest next)

-- puts pieces, one after another
unfoldable pub puts_all : {may : May} {A : Type 0} → List (List ℕ) → Program may A → Program may A
puts_all [] rest = rest
puts_all (piece ∷ pieces) rest = puts piece (puts_all pieces rest)

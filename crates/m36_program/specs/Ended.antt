-- How calls of programs end: by themselves, if nothing fails and memory suffices; and what follows
-- from the first bytes that a call writes.
use Rattle.std.specs.Prelude.{ℕ, ◌≡◌, ◌⊎◌, List, ◌++◌, Option, Some, Result, Ok, Err}
use Rattle.m36_outside.specs.Counts.{Rose}
use Rattle.m36_outside.specs.Passing.{joined}
use Rattle.m36_world.specs.Seen.{Seen}
use Rattle.m36_world.specs.declared.event.Event.{Event}
use Rattle.m36_status.specs.declared.status.Status.{Status}
use Rattle.m36_status.specs.declared.status.Status.TheVariants.{NoMemory}
use Rattle.m36_program.specs.Program.{May, Program}
use Rattle.m36_program.specs.Alike.{IsEnd}
use Rattle.m36_program.specs.Goes.{Goes}
use Rattle.m36_program.specs.Reader.{ReadBy}

-- ---- ends

-- The program can end: it is impossible that no events lead it to an end of its own.
abbrev pub HasEnd : {may : May} {A : Type 0} → Program may A → Type 0
HasEnd {may} {A} program =
    ¬ ((events : List Event) (result : Result A Status) → Goes program events result
    → ¬ IsEnd result)

-- No count of faults rose.
pub record NoneRose (old new : Seen) : Type 0 where
  pub reads : ¬ Rose old.read_faults new.read_faults
  pub writes : ¬ Rose old.write_faults new.write_faults
  pub outputs : ¬ Rose old.output_faults new.output_faults
  pub inputs : ¬ Rose old.input_faults new.input_faults

-- The call ended with Done, or memory ran out.
abbrev pub IsDoneOrNoMemory : Result (Unit {0}) Status → Type 0
IsDoneOrNoMemory result = (result ≡ Ok tt) ⊎ (result ≡ Err NoMemory)

-- ---- texts

-- The pieces, one after another, begin with this text.
pub record StartsWith (text : List ℕ) (pieces : List (List ℕ)) : Type 0 where
  pub rest : List ℕ
  pub is : joined pieces ≡ text ++ rest

-- What is written grew, and what was added begins with this text.
pub record OutputStartsWith (yes : List ℕ) (old new : Option (List ℕ)) : Type 0 where
  pub before : List ℕ
  pub rest : List ℕ
  pub was : old ≡ Some before
  pub is : new ≡ Some (before ++ (yes ++ rest))

-- The call read a value by this reader, and the value passes the audit.
pub record HasAuditedValue {may : May} {A : Type 0} (reader : Program may A) (Passes : A → Type 0)
    (old new : Seen) : Type 0 where
  pub value : A
  pub read : ReadBy reader value old new
  pub passes : Passes value

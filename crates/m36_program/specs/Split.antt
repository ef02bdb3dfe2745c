-- What the events of two joined programs mean for each of the two.
use Rattle.std.specs.Prelude.{ℕ, ◌≡◌, ◌⊎◌, List, [], ◌∷◌, ◌++◌, Result, Ok, Err}
use Rattle.m36_world.specs.Follow.{outputs}
use Rattle.m36_world.specs.declared.event.Event.{Event}
use Rattle.m36_world.specs.declared.event.Event.TheVariants.{OutputFailed}
use Rattle.m36_status.specs.declared.status.Status.{Status}
use Rattle.m36_program.specs.Program.{May, Program}
use Rattle.m36_program.specs.Goes.{Goes}

-- The first program ended with a value, and the second continued with it.
pub record BothGo {may : May} {A B : Type 0} (p : Program may A) (next : A → Program may B)
    (events : List Event) (result : Result B Status) : Type 0 where
  pub first : List Event
  pub more : List Event
  pub is : events ≡ first ++ more
  pub value : A
  pub begins : Goes p first (Ok value)
  pub goes_on : Goes (next value) more result

-- The first program ended with a status.
pub record FirstEnds {may : May} {A B : Type 0} (p : Program may A) (events : List Event)
    (result : Result B Status) : Type 0 where
  pub status : Status
  pub result_is : result ≡ Err status
  pub goes : Goes p events (Err status)

-- The output failed in a call for the last pieces of the first program and for pieces of the
-- second. If the pieces of the first had been put, it would have ended with a value.
pub record FailsAcross {may : May} {A B : Type 0} (p : Program may A) (next : A → Program may B)
    (events : List Event) (result : Result B Status) : Type 0 where
  pub passed : List Event
  pub last : List (List ℕ)
  pub rest : List (List ℕ)
  pub is : events ≡ passed ++ OutputFailed (last ++ rest) ∷ []
  pub value : A
  pub begins : Goes p (passed ++ outputs last) (Ok value)
  pub goes_on : Goes (next value) (OutputFailed rest ∷ []) result

-- One of the three holds for the events and the result of two joined programs.
abbrev pub Split :
    {may : May} {A B : Type 0} → Program may A → (A → Program may B) → List Event → Result B Status
    → Type 0
Split p next events result =
    BothGo p next events result ⊎ FirstEnds p events result ⊎ FailsAcross p next events result

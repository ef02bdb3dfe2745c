-- Calls that perform programs: one step, and one program after another.
use Rattle.std.proofs.Common.{◌≡◌, ℕ, List, [], ◌++◌, Result, Ok, Err, refl, subst, inl, inr}
use Rattle.m36_world.specs.Seen.{Seen}
use Rattle.m36_world.specs.declared.event.Event.{Event}
use Rattle.m36_world.proofs.Following.{follow_none, follow_on}
use Rattle.m36_status.specs.declared.status.Status.{Status}
use Rattle.m36_status.specs.declared.status.Status.TheVariants.{NoMemory}
use Rattle.m36_program.specs.Program.{May, IsOwnStatus, Program, done, stops, puts, some, wants, then_with}
use Rattle.m36_program.specs.Goes.{Goes}
use Rattle.m36_program.specs.Performs.{Performs}
use Rattle.m36_program.specs.Readers.{put_one}
use Rattle.m36_program.proofs.GoesLaws.{goes_then, goes_stop}

-- ---- one step without events

pub goes_done : (may : May) {A : Type 0} (a : A) → Goes {may = may} (done a) [] (Ok a)
unfolding Goes
goes_done may a = record { none = refl; result_is = refl }

pub goes_stops :
    (may : May) (A : Type 0) (s : Status) (own : IsOwnStatus s) → Goes {may = may} {A = A} (stops s own) [] (Err s)
unfolding Goes
goes_stops may A s own = record { none = refl; result_is = refl }

pub goes_some :
    {may : May} {A B : Type 0} (Is : B → Type 0) (go : B → Program may A) (b : B) (events : List Event)
    (result : Result A Status)
    → Is b → Goes (go b) events result → Goes (some Is go) events result
unfolding Goes
goes_some Is go b events result is goes = record { value = b; is = is; rest = goes }

pub goes_wants :
    {may : May} {A : Type 0} (p : Program may A) (events : List Event) (result : Result A Status) → Goes p events result
    → Goes (wants p) events result
unfolding Goes
goes_wants p events result goes = inl goes

-- memory runs out
pub goes_no_memory : {may : May} {A : Type 0} (p : Program may A) → Goes (wants p) [] (Err NoMemory)
unfolding Goes
goes_no_memory p = inr (record { none = refl; result_is = refl })

-- a call without events
pub performs_none :
    {may : May} {A : Type 0} (p : Program may A) (result : Result A Status) (seen : Seen) → Goes p [] result
    → Performs p result seen seen
performs_none p result seen goes = record { events = []; follow = follow_none seen; goes = goes }

-- ---- one step of a call

pub performs_some :
    {may : May} {A B : Type 0} (Is : B → Type 0) (go : B → Program may A) (b : B) (result : Result A Status)
    (old new : Seen)
    → Is b → Performs (go b) result old new → Performs (some Is go) result old new
performs_some Is go b result old new is performs = record {
  events = performs.events;
  follow = performs.follow;
  goes = goes_some Is go b performs.events result is performs.goes;
}

pub performs_wants :
    {may : May} {A : Type 0} (p : Program may A) (result : Result A Status) (old new : Seen) → Performs p result old new
    → Performs (wants p) result old new
performs_wants p result old new performs = record {
  events = performs.events;
  follow = performs.follow;
  goes = goes_wants p performs.events result performs.goes;
}

pub performs_no_memory :
    {may : May} {A : Type 0} (p : Program may A) (seen : Seen) → Performs (wants p) (Err NoMemory) seen seen
performs_no_memory p seen = performs_none (wants p) (Err NoMemory) seen (goes_no_memory p)

-- ---- one program after another

-- the first ended with a value, and the second continued with it
pub performs_then :
    {may : May} {A B : Type 0} (p : Program may A) (next : A → Program may B) (a : A) (result : Result B Status)
    (old between new : Seen)
    → Performs p (Ok a) old between → Performs (next a) result between new → Performs (then_with p next) result old new
performs_then p next a result old between new first second = record {
  events = first.events ++ second.events;
  follow = follow_on first.events second.events old between new first.follow second.follow;
  goes = goes_then p next first.events second.events a result first.goes second.goes;
}

-- the first ended with a status
pub performs_stop :
    {may : May} {A B : Type 0} (p : Program may A) (next : A → Program may B) (s : Status) (old new : Seen)
    → Performs p (Err s) old new → Performs (then_with p next) (Err s) old new
performs_stop p next s old new first = record {
  events = first.events;
  follow = first.follow;
  goes = goes_stop p next first.events s first.goes;
}

-- ---- a piece that is put

pub puts_then :
    {may : May} {A : Type 0} (piece : List ℕ) (rest : Program may A)
    → then_with (put_one piece) (λ u. rest) ≡ puts piece rest
unfolding then_with put_one
puts_then piece rest = refl

-- it was put, and then the rest was performed
pub performs_put :
    {may : May} {A : Type 0} (piece : List ℕ) (rest : Program may A) (result : Result A Status) (old between new : Seen)
    → Performs {may = may} (put_one piece) (Ok tt) old between → Performs rest result between new
    → Performs (puts piece rest) result old new
performs_put piece rest result old between new put performs =
    subst (λ p. Performs p result old new) (puts_then piece rest)
    (performs_then (put_one piece) (λ u. rest) tt result old between new put performs)

-- the output failed
pub performs_unput :
    {may : May} {A : Type 0} (piece : List ℕ) (rest : Program may A) (s : Status) (old new : Seen)
    → Performs {may = may} (put_one piece) (Err s) old new → Performs (puts piece rest) (Err s) old new
performs_unput piece rest s old new put =
    subst (λ p. Performs p (Err s) old new) (puts_then piece rest)
    (performs_stop (put_one piece) (λ u. rest) s old new put)

-- what a function that performs one program after another takes by `using`
pub ruleset performing = (performs_then, performs_stop)

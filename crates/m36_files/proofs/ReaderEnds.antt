-- A command that begins with a reader has an end if the reader gives a value and what follows it has an end.
use Rattle.std.proofs.Common.{◌≡◌, List, [], ◌∷◌, ◌++◌, Some, Result, Ok, refl, inl}
use Rattle.m36_outside.specs.Files.{Files}
use Rattle.m36_outside.specs.declared.folder.ReadAnswer.{ReadAnswer}
use Rattle.m36_outside.specs.declared.folder.ReadAnswer.TheVariants as read
use Rattle.m36_world.specs.declared.event.Event.{Event}
use Rattle.m36_world.specs.declared.event.Event.TheVariants.{FileRead}
use Rattle.m36_status.specs.declared.status.Status.{Status}
use Rattle.m36_program.specs.Ended.{HasEnd}
use Rattle.m36_program.specs.Found.{found_in}
use Rattle.m36_program.specs.Goes.{AfterRead, Goes}
use Rattle.m36_program.specs.Program.{Found, Content, Absent, TooLarge, May, Program, then_with}
use Rattle.m36_program.specs.Program.{done, stops, reads, writes, puts, takes, some, wants}
use Rattle.m36_program.specs.Reader.{reader_result}
use Rattle.m36_program.proofs.GoesLaws.{goes_then}

-- Some events lead the program to this value.
record Gives {may : May} {A : Type 0} (p : Program may A) (value : A) : Type 0 where
  events : List Event
  goes : Goes p events (Ok value)

abbrev answer_for : Found → ReadAnswer
answer_for (Content bytes) = read.Read bytes
answer_for Absent = read.Absent
answer_for TooLarge = read.TooLarge

answered :
    {A : Type 0} (found : Found) (goes : Found → List Event → Type 0) (more : List Event) (result : Result A Status)
    → goes found more → AfterRead (answer_for found) goes more result
answered (Content bytes) goes more result on = on
answered Absent goes more result on = on
answered TooLarge goes more result on = on

reader_gives :
    {may : May} {A : Type 0} (p : Program may A) (files : Files) (value : A) → reader_result files p ≡ Some (Ok value)
    → Gives p value
unfolding Goes reader_result
reader_gives (done a) files value is = record {
  events = [];
  goes = record { none = refl; result_is = let e = is in cc };
}
reader_gives (stops s own) files value is = absurd (let e = is in cc)
reader_gives (reads name go) files value is =
    let found = found_in (files name) in
    let on = reader_gives (go found) files value is in record {
      events = FileRead name (answer_for found) ∷ on.events;
      goes = record {
        answer = answer_for found;
        more = on.events;
        first = refl;
        rest = answered found (λ f more. Goes (go f) more (Ok value)) on.events (Ok value) on.goes;
      };
    }
reader_gives (writes allowed name content p) files value is = absurd (let e = is in cc)
reader_gives (puts piece p) files value is = absurd (let e = is in cc)
reader_gives (takes allowed go) files value is = absurd (let e = is in cc)
reader_gives (some Is go) files value is = absurd (let e = is in cc)
reader_gives (wants p) files value is =
    let on = reader_gives p files value is in record { events = on.events; goes = inl on.goes }

pub reader_has_end :
    {may : May} {A B : Type 0} (p : Program may A) (next : A → Program may B) (files : Files) (value : A)
    → reader_result files p ≡ Some (Ok value) → HasEnd (next value) → HasEnd (then_with p next)
reader_has_end p next files value gives has =
    let first = reader_gives p files value gives in
    λ none. has (λ events result goes. none (first.events ++ events) result
    (goes_then p next first.events events value result first.goes goes))

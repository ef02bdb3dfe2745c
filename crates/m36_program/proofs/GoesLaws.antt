-- Two joined programs: the events of the first and then those of the second; or the first ends with a status.
use Rattle.std.proofs.Common.{◌≡◌, ℕ, List, [], ◌∷◌, ◌++◌, Result, Ok, Err, sym, ap, subst, inl, inr}
use Rattle.m36_outside.specs.declared.folder.ReadAnswer.{ReadAnswer}
use Rattle.m36_outside.specs.declared.folder.ReadAnswer.TheVariants as read
use Rattle.m36_outside.specs.declared.folder.WriteAnswer.{WriteAnswer}
use Rattle.m36_outside.specs.declared.folder.WriteAnswer.TheVariants as write
use Rattle.m36_world.specs.declared.event.Event.{Event}
use Rattle.m36_world.specs.declared.event.Event.TheVariants.{OutputFailed}
use Rattle.m36_status.specs.declared.status.Status.{Status}
use Rattle.m36_status.specs.declared.status.Status.TheVariants.{ReadFault, WriteFault, NoMemory}
use Rattle.m36_program.specs.Program.{Found, Content, Absent, TooLarge, May, Program, then_with}
use Rattle.m36_program.specs.Program.{done, stops, reads, writes, puts, takes, some, wants}
use Rattle.m36_program.specs.Goes.{Ends, AfterRead, AfterWrite, FailsWith, FailedOutput, FailedInput, Goes}

-- a result with a value is not an end with a status
no_end : {A P : Type 0} (a : A) (status : Status) (events : List Event) → Ends {A = A} (Err status) events (Ok a) → P
no_end a status events ends = absurd (let e = ends.result_is in cc)

-- a status determines the end, whatever the type of the value
same_status : {A : Type 0} (s t : Status) → (let r : Result A Status = Err s in r ≡ Err t) → s ≡ t
same_status s t is = cc

same_end :
    {A B : Type 0} (s t : Status) (events : List Event) → Ends {A = A} (Err t) events (Err s)
    → Ends {A = B} (Err t) events (Err s)
same_end {A} s t events ends = record {
  none = ends.none;
  result_is = ap (λ (u : Status). Err u) (same_status {A = A} s t ends.result_is);
}

-- ---- after the value of the first

read_then :
    {A B : Type 0} (answer : ReadAnswer) (goes goes' : Found → List Event → Type 0) (first more : List Event) (a : A)
    (result : Result B Status)
    → ((found : Found) → goes found first → goes' found (first ++ more))
    → AfterRead {A = A} answer goes first (Ok a) → AfterRead answer goes' (first ++ more) result
read_then (read.Read bytes) goes goes' first more a result on rest = on (Content bytes) rest
read_then read.Absent goes goes' first more a result on rest = on Absent rest
read_then read.TooLarge goes goes' first more a result on rest = on TooLarge rest
read_then read.Failed goes goes' first more a result on rest = no_end a ReadFault first rest
read_then read.NoMemory goes goes' first more a result on rest = no_end a NoMemory first rest

write_then :
    {A B : Type 0} (answer : WriteAnswer) (goes goes' : List Event → Type 0) (first more : List Event) (a : A)
    (result : Result B Status)
    → (goes first → goes' (first ++ more))
    → AfterWrite {A = A} answer goes first (Ok a) → AfterWrite answer goes' (first ++ more) result
write_then write.Written goes goes' first more a result on rest = on rest
write_then write.Failed goes goes' first more a result on rest = no_end a WriteFault first rest
write_then write.NoMemory goes goes' first more a result on rest = no_end a NoMemory first rest

no_failed_input : {A P : Type 0} (a : A) (events : List Event) → FailedInput {A = A} events (Ok a) → P
no_failed_input a events failed = absurd (let e = failed.result_is in cc)

-- A failed output ends the program with WriteFault, wherever in the program the last of its pieces is put.
pub fails_with :
    {A : Type 0} (pieces : List (List ℕ)) (goes : List Event → Type 0) (result : Result A Status)
    → (goes (OutputFailed pieces ∷ []) → result ≡ Err WriteFault) → FailsWith pieces goes result
    → result ≡ Err WriteFault
fails_with [] goes result on fails = fails
fails_with (piece ∷ pieces) goes result on fails = on fails

pub goes_failed :
    {may : May} {A : Type 0} (p : Program may A) (pieces : List (List ℕ)) (result : Result A Status)
    → Goes p (OutputFailed pieces ∷ []) result → result ≡ Err WriteFault
unfolding Goes
goes_failed (done x) pieces result goes = absurd (let e = goes.none in cc)
goes_failed (stops status own) pieces result goes = absurd (let e = goes.none in cc)
goes_failed (reads name go) pieces result goes = absurd (let e = goes.first in cc)
goes_failed (writes allowed name content p) pieces result goes = absurd (let e = goes.first in cc)
goes_failed (puts piece p) pieces result (inl goes) = absurd (let e = goes.first in cc)
goes_failed (puts piece p) pieces result (inr goes) =
    fails_with goes.pieces _ result (λ on. goes_failed p goes.pieces result on) goes.rest
goes_failed (takes allowed go) pieces result (inl goes) = absurd (let e = goes.first in cc)
goes_failed (takes allowed go) pieces result (inr goes) = absurd (let e = goes.only in cc)
goes_failed (some Is go) pieces result goes = goes_failed (go goes.value) pieces result goes.rest
goes_failed (wants p) pieces result (inl goes) = goes_failed p pieces result goes
goes_failed (wants p) pieces result (inr ends) = absurd (let e = ends.none in cc)

no_failed_output :
    {may : May} {A P : Type 0} (a : A) (piece : List ℕ) (p : Program may A) (events : List Event)
    → FailedOutput piece (λ more. Goes p more (Ok a)) events (Ok a) → P
no_failed_output a piece p events failed =
    absurd (let e = fails_with failed.pieces _ (Ok a) (λ on. goes_failed p failed.pieces (Ok a) on) failed.rest in cc)

pub goes_then :
    {may : May} {A B : Type 0} (p : Program may A) (next : A → Program may B) (first more : List Event) (a : A)
    (result : Result B Status)
    → Goes p first (Ok a) → Goes (next a) more result → Goes (then_with p next) (first ++ more) result
unfolding Goes then_with
goes_then (done x) next first more a result goes rest =
    let none : first ≡ [] = goes.none in
    let is : x ≡ a = let e = goes.result_is in cc in
    subst (λ events. Goes (next x) (events ++ more) result) (sym none)
    (subst (λ y. Goes (next y) more result) (sym is) rest)
goes_then (stops status own) next first more a result goes rest = no_end a status first goes
goes_then (reads name go) next first more a result goes rest = record {
  answer = goes.answer;
  more = goes.more ++ more;
  first = ap (λ events. events ++ more) goes.first;
  rest =
      read_then goes.answer _ _ goes.more more a result
      (λ found on. goes_then (go found) next goes.more more a result on rest) goes.rest;
}
goes_then (writes allowed name content p) next first more a result goes rest = record {
  answer = goes.answer;
  more = goes.more ++ more;
  first = ap (λ events. events ++ more) goes.first;
  rest =
      write_then goes.answer _ _ goes.more more a result
      (λ on. goes_then p next goes.more more a result on rest) goes.rest;
}
goes_then (puts piece p) next first more a result (inl goes) rest = inl (record {
  more = goes.more ++ more;
  first = ap (λ events. events ++ more) goes.first;
  rest = goes_then p next goes.more more a result goes.rest rest;
})
goes_then (puts piece p) next first more a result (inr cut) rest = no_failed_output a piece p first cut
goes_then (takes allowed go) next first more a result (inl goes) rest = inl (record {
  piece = goes.piece;
  more = goes.more ++ more;
  first = ap (λ events. events ++ more) goes.first;
  rest = goes_then (go goes.piece) next goes.more more a result goes.rest rest;
})
goes_then (takes allowed go) next first more a result (inr failed) rest = no_failed_input a first failed
goes_then (some Is go) next first more a result goes rest = record {
  value = goes.value;
  is = goes.is;
  rest = goes_then (go goes.value) next first more a result goes.rest rest;
}
goes_then (wants p) next first more a result (inl goes) rest = inl (goes_then p next first more a result goes rest)
goes_then (wants p) next first more a result (inr ends) rest = no_end a NoMemory first ends

-- ---- an end of the first

read_stop :
    (A B : Type 0) (answer : ReadAnswer) (goes goes' : Found → List Event → Type 0) (events : List Event) (s : Status)
    → ((found : Found) → goes found events → goes' found events)
    → AfterRead {A = A} answer goes events (Err s) → AfterRead {A = B} answer goes' events (Err s)
read_stop A B (read.Read bytes) goes goes' events s on rest = on (Content bytes) rest
read_stop A B read.Absent goes goes' events s on rest = on Absent rest
read_stop A B read.TooLarge goes goes' events s on rest = on TooLarge rest
read_stop A B read.Failed goes goes' events s on rest = same_end s ReadFault events rest
read_stop A B read.NoMemory goes goes' events s on rest = same_end s NoMemory events rest

write_stop :
    (A B : Type 0) (answer : WriteAnswer) (goes goes' : List Event → Type 0) (events : List Event) (s : Status)
    → (goes events → goes' events)
    → AfterWrite {A = A} answer goes events (Err s) → AfterWrite {A = B} answer goes' events (Err s)
write_stop A B write.Written goes goes' events s on rest = on rest
write_stop A B write.Failed goes goes' events s on rest = same_end s WriteFault events rest
write_stop A B write.NoMemory goes goes' events s on rest = same_end s NoMemory events rest

fails_stop :
    (A B : Type 0) (pieces : List (List ℕ)) (goes goes' : List Event → Type 0) (s : Status)
    → (goes (OutputFailed pieces ∷ []) → goes' (OutputFailed pieces ∷ []))
    → FailsWith {A = A} pieces goes (Err s) → FailsWith {A = B} pieces goes' (Err s)
fails_stop A B [] goes goes' s on fails = ap (λ (u : Status). Err u) (same_status {A = A} s WriteFault fails)
fails_stop A B (piece ∷ pieces) goes goes' s on fails = on fails

same_failed_input :
    {A B : Type 0} (events : List Event) (s : Status) → FailedInput {A = A} events (Err s)
    → FailedInput {A = B} events (Err s)
same_failed_input {A} events s failed = record {
  only = failed.only;
  result_is = ap (λ (u : Status). Err u) (same_status {A = A} s ReadFault failed.result_is);
}

pub goes_stop :
    {may : May} {A B : Type 0} (p : Program may A) (next : A → Program may B) (events : List Event) (s : Status)
    → Goes p events (Err s) → Goes (then_with p next) events (Err s)
unfolding Goes then_with
goes_stop (done x) next events s goes = absurd (let e = goes.result_is in cc)
goes_stop {A = A} (stops status own) next events s goes = same_end {A = A} s status events goes
goes_stop {A = A} {B = B} (reads name go) next events s goes = record {
  answer = goes.answer;
  more = goes.more;
  first = goes.first;
  rest = read_stop A B goes.answer _ _ goes.more s (λ found on. goes_stop (go found) next goes.more s on) goes.rest;
}
goes_stop {A = A} {B = B} (writes allowed name content p) next events s goes = record {
  answer = goes.answer;
  more = goes.more;
  first = goes.first;
  rest = write_stop A B goes.answer _ _ goes.more s (λ on. goes_stop p next goes.more s on) goes.rest;
}
goes_stop {A = A} {B = B} (puts piece p) next events s (inl goes) = inl (record {
  more = goes.more;
  first = goes.first;
  rest = goes_stop p next goes.more s goes.rest;
})
goes_stop {A = A} {B = B} (puts piece p) next events s (inr failed) = inr (record {
  pieces = failed.pieces;
  only = failed.only;
  rest = fails_stop A B failed.pieces _ _ s (λ on. goes_stop p next (OutputFailed failed.pieces ∷ []) s on) failed.rest;
})
goes_stop (takes allowed go) next events s (inl goes) = inl (record {
  piece = goes.piece;
  more = goes.more;
  first = goes.first;
  rest = goes_stop (go goes.piece) next goes.more s goes.rest;
})
goes_stop (takes allowed go) next events s (inr failed) = inr (same_failed_input events s failed)
goes_stop (some Is go) next events s goes = record {
  value = goes.value;
  is = goes.is;
  rest = goes_stop (go goes.value) next events s goes.rest;
}
goes_stop (wants p) next events s (inl goes) = inl (goes_stop p next events s goes)
goes_stop (wants p) next events s (inr ends) = inr (same_end s NoMemory events ends)

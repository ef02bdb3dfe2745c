-- The events of two joined programs are those of one and then the other; or the first ended with a status; or the
-- output failed in a call for pieces of both.
use Rattle.std.proofs.Common.{◌≡◌, ◌⊎◌, ℕ, true, List, [], ◌∷◌, ◌++◌, Result, Ok, Err, refl, sym, ap, subst, ◌∙◌, inl}
use Rattle.std.proofs.Common.{inr}
use Rattle.std.proofs.lemmas.List.{append_assoc}
use Rattle.m36_outside.specs.declared.folder.ReadAnswer.{ReadAnswer}
use Rattle.m36_outside.specs.declared.folder.ReadAnswer.TheVariants as read
use Rattle.m36_outside.specs.declared.folder.WriteAnswer.{WriteAnswer}
use Rattle.m36_outside.specs.declared.folder.WriteAnswer.TheVariants as write
use Rattle.m36_world.specs.Follow.{outputs}
use Rattle.m36_world.specs.declared.event.Event.{Event}
use Rattle.m36_world.specs.declared.event.Event.TheVariants.{FileRead, FileWrite, Output, OutputFailed, Input}
use Rattle.m36_status.specs.declared.status.Status.{Status}
use Rattle.m36_status.specs.declared.status.Status.TheVariants.{ReadFault, WriteFault, NoMemory}
use Rattle.m36_program.specs.Program.{Found, Content, Absent, TooLarge, May, Program, then_with}
use Rattle.m36_program.specs.Program.{done, stops, reads, writes, puts, takes, some, wants}
use Rattle.m36_program.specs.Goes.{AfterRead, AfterWrite, FailsWith, Goes}
use Rattle.m36_program.specs.Split.{Split}
use Rattle.m36_program.proofs.GoesLaws.{goes_failed}

-- ---- a failed output

-- the pieces of a failed call are the last ones of the first program and some of the second
pub record FailsBoth {may : May} {A B : Type 0} (p : Program may A) (next : A → Program may B) (pieces : List (List ℕ))
    (result : Result B Status) : Type 0 where
  pub last : List (List ℕ)
  pub rest : List (List ℕ)
  pub is : pieces ≡ last ++ rest
  pub value : A
  pub begins : Goes p (outputs last) (Ok value)
  pub goes_on : Goes (next value) (OutputFailed rest ∷ []) result

abbrev FailSplit :
    {may : May} {A B : Type 0} → Program may A → (A → Program may B) → List (List ℕ) → Result B Status → Type 0
FailSplit p next pieces result = Goes p (OutputFailed pieces ∷ []) (Err WriteFault) ⊎ FailsBoth p next pieces result

fail_map :
    {may : May} {A B : Type 0} (p q : Program may A) (next : A → Program may B) (pieces : List (List ℕ))
    (result : Result B Status)
    → ((events : List Event) (r : Result A Status) → Goes q events r → Goes p events r) → FailSplit q next pieces result
    → FailSplit p next pieces result
fail_map p q next pieces result on (inl goes) = inl (on _ _ goes)
fail_map p q next pieces result on (inr both) = inr (record {
  last = both.last;
  rest = both.rest;
  is = both.is;
  value = both.value;
  begins = on _ _ both.begins;
  goes_on = both.goes_on;
})

-- one more piece before those of the failed call
fail_more :
    {may : May} {A B : Type 0} (piece : List ℕ) (p : Program may A) (next : A → Program may B) (pieces : List (List ℕ))
    (result : Result B Status)
    → (Goes p (OutputFailed pieces ∷ []) (Err WriteFault)
    → FailsWith pieces (λ more. Goes p more (Err WriteFault)) (let r : Result A Status = Err WriteFault in r))
    → FailSplit p next pieces result → FailSplit (puts piece p) next (piece ∷ pieces) result
unfolding Goes
fail_more piece p next pieces result on (inl goes) = inl (inr (record { pieces = pieces; only = refl; rest = on goes }))
fail_more piece p next pieces result on (inr both) = inr (record {
  last = piece ∷ both.last;
  rest = both.rest;
  is = ap (λ l. piece ∷ l) both.is;
  value = both.value;
  begins = inl (record { more = outputs both.last; first = refl; rest = both.begins });
  goes_on = both.goes_on;
})

fail_by :
    {may : May} {A B : Type 0} (piece : List ℕ) (p : Program may A) (next : A → Program may B) (pieces : List (List ℕ))
    (result : Result B Status)
    → (Goes (then_with p next) (OutputFailed pieces ∷ []) result → FailSplit p next pieces result)
    → FailsWith pieces (λ more. Goes (then_with p next) more result) result
    → FailSplit (puts piece p) next (piece ∷ pieces) result
unfolding Goes
fail_by piece p next [] result on fails = inl (inr (record { pieces = []; only = refl; rest = refl }))
fail_by piece p next (q ∷ pieces) result on fails = fail_more piece p next (q ∷ pieces) result (λ goes. goes) (on fails)

pub same_pieces : (first more : List (List ℕ)) → OutputFailed first ∷ [] ≡ OutputFailed more ∷ [] → first ≡ more
same_pieces first more is = cc

split_failed :
    {may : May} {A B : Type 0} (p : Program may A) (next : A → Program may B) (pieces : List (List ℕ))
    (result : Result B Status)
    → Goes (then_with p next) (OutputFailed pieces ∷ []) result → FailSplit p next pieces result
unfolding Goes then_with
split_failed (done x) next pieces result goes = inr (record {
  last = [];
  rest = pieces;
  is = refl;
  value = x;
  begins = record { none = refl; result_is = refl };
  goes_on = goes;
})
split_failed (stops s own) next pieces result goes = absurd (let e = goes.none in cc)
split_failed (reads name go) next pieces result goes = absurd (let e = goes.first in cc)
split_failed (writes allowed name content p) next pieces result goes = absurd (let e = goes.first in cc)
split_failed (puts piece p) next pieces result (inl goes) = absurd (let e = goes.first in cc)
split_failed (puts piece p) next pieces result (inr failed) =
    subst (λ l. FailSplit (puts piece p) next l result) (sym (same_pieces pieces (piece ∷ failed.pieces) failed.only))
    (fail_by piece p next failed.pieces result (λ on. split_failed p next failed.pieces result on) failed.rest)
split_failed (takes allowed go) next pieces result (inl goes) = absurd (let e = goes.first in cc)
split_failed (takes allowed go) next pieces result (inr failed) = absurd (let e = failed.only in cc)
split_failed (some Is go) next pieces result goes =
    fail_map (some Is go) (go goes.value) next pieces result
    (λ events r on. record { value = goes.value; is = goes.is; rest = on })
    (split_failed (go goes.value) next pieces result goes.rest)
split_failed (wants p) next pieces result (inl goes) =
    fail_map (wants p) p next pieces result (λ events r on. inl on) (split_failed p next pieces result goes)
split_failed (wants p) next pieces result (inr ends) = absurd (let e = ends.none in cc)

-- ---- any events

-- some events before them
split_map :
    {may : May} {A B : Type 0} (p q : Program may A) (next : A → Program may B) (passed more : List Event)
    (result : Result B Status)
    → ((events : List Event) (r : Result A Status) → Goes q events r → Goes p (passed ++ events) r)
    → Split q next more result → Split p next (passed ++ more) result
split_map p q next passed more result on (inl both) = inl (record {
  first = passed ++ both.first;
  more = both.more;
  is = ap (λ l. passed ++ l) both.is ∙ sym (append_assoc passed both.first both.more);
  value = both.value;
  begins = on both.first (Ok both.value) both.begins;
  goes_on = both.goes_on;
})
split_map p q next passed more result on (inr (inl ends)) = inr (inl (record {
  status = ends.status;
  result_is = ends.result_is;
  goes = on more (Err ends.status) ends.goes;
}))
split_map p q next passed more result on (inr (inr across)) = inr (inr (record {
  passed = passed ++ across.passed;
  last = across.last;
  rest = across.rest;
  is =
      ap (λ l. passed ++ l) across.is
      ∙ sym (append_assoc passed across.passed (OutputFailed (across.last ++ across.rest) ∷ []));
  value = across.value;
  begins =
      subst (λ l. Goes p l (Ok across.value)) (sym (append_assoc passed across.passed (outputs across.last)))
      (on _ (Ok across.value) across.begins);
  goes_on = across.goes_on;
}))

-- the first ended in this step
split_ends :
    {may : May} {A B : Type 0} (p : Program may A) (next : A → Program may B) (s : Status) (events : List Event)
    (result : Result B Status)
    → result ≡ Err s → Goes p events (Err s) → Split p next events result
split_ends p next s events result is goes = inr (inl (record { status = s; result_is = is; goes = goes }))

split_read :
    {may : May} {A B : Type 0} (name : List ℕ) (go : Found → Program may A) (next : A → Program may B)
    (answer : ReadAnswer) (more : List Event) (result : Result B Status)
    → ((found : Found) → Goes (then_with (go found) next) more result → Split (go found) next more result)
    → AfterRead answer (λ found events. Goes (then_with (go found) next) events result) more result
    → Split (reads name go) next (FileRead name answer ∷ more) result
unfolding Goes
split_read name go next (read.Read bytes) more result on after =
    split_map (reads name go) (go (Content bytes)) next (FileRead name (read.Read bytes) ∷ []) more result
    (λ events r goes. record { answer = read.Read bytes; more = events; first = refl; rest = goes })
    (on (Content bytes) after)
split_read name go next read.Absent more result on after =
    split_map (reads name go) (go Absent) next (FileRead name read.Absent ∷ []) more result
    (λ events r goes. record { answer = read.Absent; more = events; first = refl; rest = goes }) (on Absent after)
split_read name go next read.TooLarge more result on after =
    split_map (reads name go) (go TooLarge) next (FileRead name read.TooLarge ∷ []) more result
    (λ events r goes. record { answer = read.TooLarge; more = events; first = refl; rest = goes }) (on TooLarge after)
split_read name go next read.Failed more result on after =
    split_ends (reads name go) next ReadFault (FileRead name read.Failed ∷ more) result after.result_is
    (record { answer = read.Failed; more = more; first = refl; rest = record { none = after.none; result_is = refl } })
split_read name go next read.NoMemory more result on after =
    split_ends (reads name go) next NoMemory (FileRead name read.NoMemory ∷ more) result after.result_is
    (record {
      answer = read.NoMemory;
      more = more;
      first = refl;
      rest =
          record { none = after.none; result_is = refl };
    })

split_write :
    {may : May} {A B : Type 0} (allowed : may.writes ≡ true) (name content : List ℕ) (p : Program may A)
    (next : A → Program may B) (answer : WriteAnswer) (more : List Event) (result : Result B Status)
    → (Goes (then_with p next) more result → Split p next more result)
    → AfterWrite answer (λ events. Goes (then_with p next) events result) more result
    → Split (writes allowed name content p) next (FileWrite name content answer ∷ more) result
unfolding Goes
split_write allowed name content p next write.Written more result on after =
    split_map (writes allowed name content p) p next (FileWrite name content write.Written ∷ []) more result
    (λ events r goes. record { answer = write.Written; more = events; first = refl; rest = goes }) (on after)
split_write allowed name content p next write.Failed more result on after =
    split_ends (writes allowed name content p) next WriteFault
    (FileWrite name content write.Failed ∷ more) result after.result_is
    (record { answer = write.Failed; more = more; first = refl; rest = record { none = after.none; result_is = refl } })
split_write allowed name content p next write.NoMemory more result on after =
    split_ends (writes allowed name content p) next NoMemory
    (FileWrite name content write.NoMemory ∷ more) result after.result_is
    (record {
      answer = write.NoMemory;
      more = more;
      first = refl;
      rest =
          record { none = after.none; result_is = refl };
    })

split_fails :
    {may : May} {A B : Type 0} (p : Program may A) (next : A → Program may B) (pieces : List (List ℕ))
    (result : Result B Status)
    → result ≡ Err WriteFault → FailSplit p next pieces result → Split p next (OutputFailed pieces ∷ []) result
split_fails p next pieces result is (inl goes) = split_ends p next WriteFault (OutputFailed pieces ∷ []) result is goes
split_fails p next pieces result is (inr both) = inr (inr (record {
  passed = [];
  last = both.last;
  rest = both.rest;
  is = ap (λ l. OutputFailed l ∷ []) both.is;
  value = both.value;
  begins = both.begins;
  goes_on = both.goes_on;
}))

pub goes_split :
    {may : May} {A B : Type 0} (p : Program may A) (next : A → Program may B) (events : List Event)
    (result : Result B Status)
    → Goes (then_with p next) events result → Split p next events result
unfolding Goes then_with
goes_split (done x) next events result goes = inl (record {
  first = [];
  more = events;
  is = refl;
  value = x;
  begins = record { none = refl; result_is = refl };
  goes_on = goes;
})
goes_split (stops s own) next events result ends =
    split_ends (stops s own) next s events result ends.result_is (record { none = ends.none; result_is = refl })
goes_split (reads name go) next events result goes =
    subst (λ e. Split (reads name go) next e result) (sym goes.first)
    (split_read name go next goes.answer goes.more result
    (λ found on. goes_split (go found) next goes.more result on) goes.rest)
goes_split (writes allowed name content p) next events result goes =
    subst (λ e. Split (writes allowed name content p) next e result) (sym goes.first)
    (split_write allowed name content p next goes.answer goes.more result
    (λ on. goes_split p next goes.more result on) goes.rest)
goes_split (puts piece p) next events result (inl goes) =
    subst (λ e. Split (puts piece p) next e result) (sym goes.first)
    (split_map (puts piece p) p next (Output piece ∷ []) goes.more result
    (λ more r on. inl (record { more = more; first = refl; rest = on })) (goes_split p next goes.more result goes.rest))
goes_split (puts piece p) next events result (inr failed) =
    subst (λ e. Split (puts piece p) next e result) (sym failed.only)
    (let goes : Goes (then_with (puts piece p) next) (OutputFailed (piece ∷ failed.pieces) ∷ []) result =
    inr (record { pieces = failed.pieces; only = refl; rest = failed.rest }) in
    split_fails (puts piece p) next (piece ∷ failed.pieces) result
    (goes_failed (then_with (puts piece p) next) (piece ∷ failed.pieces) result goes)
    (split_failed (puts piece p) next (piece ∷ failed.pieces) result goes))
goes_split (takes allowed go) next events result (inl goes) =
    subst (λ e. Split (takes allowed go) next e result) (sym goes.first)
    (split_map (takes allowed go) (go goes.piece) next (Input goes.piece ∷ []) goes.more result
    (λ more r on. inl (record { piece = goes.piece; more = more; first = refl; rest = on }))
    (goes_split (go goes.piece) next goes.more result goes.rest))
goes_split (takes allowed go) next events result (inr failed) =
    split_ends (takes allowed go) next ReadFault events result failed.result_is
    (inr (record { only = failed.only; result_is = refl }))
goes_split (some Is go) next events result goes =
    split_map (some Is go) (go goes.value) next [] events result
    (λ more r on. record { value = goes.value; is = goes.is; rest = on })
    (goes_split (go goes.value) next events result goes.rest)
goes_split (wants p) next events result (inl goes) =
    split_map (wants p) p next [] events result (λ more r on. inl on) (goes_split p next events result goes)
goes_split (wants p) next events result (inr ends) =
    split_ends (wants p) next NoMemory events result ends.result_is
    (inr (record { none = ends.none; result_is = refl }))

-- A program has the same events and results, whatever else its type may do.
use Rattle.std.proofs.Common.{List, [], ◌∷◌, Result, inl, inr}
use Rattle.m36_outside.specs.declared.folder.ReadAnswer.{ReadAnswer}
use Rattle.m36_outside.specs.declared.folder.ReadAnswer.TheVariants as read
use Rattle.m36_world.specs.declared.event.Event.{Event}
use Rattle.m36_world.specs.Seen.{Seen}
use Rattle.m36_status.specs.declared.status.Status.{Status}
use Rattle.m36_program.specs.Goes.{AfterRead, Goes}
use Rattle.m36_program.specs.Performs.{Performs}
use Rattle.m36_program.specs.Program.{Found, May, quiet, Program, done, stops, reads, writes, puts, takes, some, wants}
use Rattle.cmd_folder.proofs.BlockLaws.{fails_as}
use Rattle.cmd_make.specs.Within.{widen}

read_as :
    {A : Type 0} (answer : ReadAnswer) (goes goes' : Found → List Event → Type 0) (more : List Event)
    (result : Result A Status)
    → ((found : Found) → goes found more → goes' found more) → AfterRead answer goes more result
    → AfterRead answer goes' more result
read_as (read.Read bytes) goes goes' more result on after = on _ after
read_as read.Absent goes goes' more result on after = on _ after
read_as read.TooLarge goes goes' more result on after = on _ after
read_as read.Failed goes goes' more result on after = after
read_as read.NoMemory goes goes' more result on after = after

pub goes_within :
    (may : May) {A : Type 0} (p : Program quiet A) (events : List Event) (result : Result A Status)
    → Goes p events result → Goes {may = may} (widen p) events result
unfolding Goes widen
goes_within may (done a) events result goes = goes
goes_within may (stops status own) events result goes = goes
goes_within may (reads name go) events result goes = record {
  answer = goes.answer;
  more = goes.more;
  first = goes.first;
  rest = read_as goes.answer (λ found more. Goes (go found) more result)
      (λ found more. Goes {may = may} (widen (go found)) more result)
      goes.more result (λ found on. goes_within may (go found) goes.more result on) goes.rest;
}
goes_within may (writes allowed name content rest) events result goes = absurd (cc)
goes_within may (puts piece rest) events result (inl goes) = inl (record {
  more = goes.more;
  first = goes.first;
  rest = goes_within may rest goes.more result goes.rest;
})
goes_within may (puts piece rest) events result (inr failed) = inr (record {
  pieces = failed.pieces;
  only = failed.only;
  rest = fails_as failed.pieces (λ more. Goes rest more result)
      (λ more. Goes {may = may} (widen rest) more result) result
      (λ more on. goes_within may rest more result on) failed.rest;
})
goes_within may (takes allowed go) events result goes = absurd (cc)
goes_within may (some Is go) events result goes = record {
  value = goes.value;
  is = goes.is;
  rest = goes_within may (go goes.value) events result goes.rest;
}
goes_within may (wants rest) events result (inl goes) = inl (goes_within may rest events result goes)
goes_within may (wants rest) events result (inr ends) = inr ends

pub goes_quiet :
    (may : May) {A : Type 0} (p : Program quiet A) (events : List Event) (result : Result A Status)
    → Goes {may = may} (widen p) events result → Goes p events result
unfolding Goes widen
goes_quiet may (done a) events result goes = goes
goes_quiet may (stops status own) events result goes = goes
goes_quiet may (reads name go) events result goes = record {
  answer = goes.answer;
  more = goes.more;
  first = goes.first;
  rest = read_as goes.answer (λ found more. Goes {may = may} (widen (go found)) more result)
      (λ found more. Goes (go found) more result)
      goes.more result (λ found on. goes_quiet may (go found) goes.more result on) goes.rest;
}
goes_quiet may (writes allowed name content rest) events result goes = absurd (cc)
goes_quiet may (puts piece rest) events result (inl goes) = inl (record {
  more = goes.more;
  first = goes.first;
  rest = goes_quiet may rest goes.more result goes.rest;
})
goes_quiet may (puts piece rest) events result (inr failed) = inr (record {
  pieces = failed.pieces;
  only = failed.only;
  rest = fails_as failed.pieces (λ more. Goes {may = may} (widen rest) more result)
      (λ more. Goes rest more result) result
      (λ more on. goes_quiet may rest more result on) failed.rest;
})
goes_quiet may (takes allowed go) events result goes = absurd (cc)
goes_quiet may (some Is go) events result goes = record {
  value = goes.value;
  is = goes.is;
  rest = goes_quiet may (go goes.value) events result goes.rest;
}
goes_quiet may (wants rest) events result (inl goes) = inl (goes_quiet may rest events result goes)
goes_quiet may (wants rest) events result (inr ends) = inr ends

-- ---- a call

pub performs_within :
    (may : May) {A : Type 0} (p : Program quiet A) (result : Result A Status) (old new : Seen)
    → Performs p result old new → Performs {may = may} (widen p) result old new
performs_within may p result old new performs = record {
  events = performs.events;
  follow = performs.follow;
  goes = goes_within may p performs.events result performs.goes;
}

-- What holds for the events of each program (`MayHappen`), and what follows from it.
use Rattle.std.proofs.Common.{List, Result, Ok, Err, refl, sym, subst, inl, inr}
use Rattle.m36_outside.specs.declared.folder.ReadAnswer.{ReadAnswer}
use Rattle.m36_outside.specs.declared.folder.ReadAnswer.TheVariants as read
use Rattle.m36_outside.specs.declared.folder.WriteAnswer.{WriteAnswer}
use Rattle.m36_outside.specs.declared.folder.WriteAnswer.TheVariants as write
use Rattle.m36_world.specs.declared.event.Event.{Event}
use Rattle.m36_status.specs.declared.status.Status.{Status}
use Rattle.m36_status.specs.declared.status.Status.TheVariants as status
use Rattle.m36_program.specs.Program.{Found, Content, Absent, TooLarge, May, IsOwnStatus, Program}
use Rattle.m36_program.specs.Program.{done, stops, reads, writes, puts, takes, some, wants}
use Rattle.m36_program.specs.Goes.{Ends, AfterRead, AfterWrite, Goes}
use Rattle.m36_program.specs.MayHappen.{IsWithoutFailure, MayHappen}
use Rattle.m36_program.proofs.GoesLaws.{goes_failed, fails_with}

-- ---- steps, mapped to others

pub read_map :
    {A : Type 0} (answer : ReadAnswer) (goes goes' : Found → List Event → Type 0) (more : List Event)
    (result : Result A Status)
    → ((found : Found) → goes found more → goes' found more) → AfterRead answer goes more result
    → AfterRead answer goes' more result
read_map (read.Read bytes) goes goes' more result on rest = on (Content bytes) rest
read_map read.Absent goes goes' more result on rest = on Absent rest
read_map read.TooLarge goes goes' more result on rest = on TooLarge rest
read_map read.Failed goes goes' more result on rest = rest
read_map read.NoMemory goes goes' more result on rest = rest

pub write_map :
    {A : Type 0} (answer : WriteAnswer) (goes goes' : List Event → Type 0) (more : List Event)
    (result : Result A Status)
    → (goes more → goes' more) → AfterWrite answer goes more result → AfterWrite answer goes' more result
write_map write.Written goes goes' more result on rest = on rest
write_map write.Failed goes goes' more result on rest = rest
write_map write.NoMemory goes goes' more result on rest = rest

-- ---- `MayHappen` holds for each program

pub own_unfailed : (A : Type 0) (s : Status) → IsOwnStatus s → IsWithoutFailure {A = A} (Err s)
own_unfailed A status.Done own = absurd own
own_unfailed A status.Usage own = absurd own
own_unfailed A status.ReadFault own = absurd own
own_unfailed A status.WriteFault own = absurd own
own_unfailed A status.NoMemory own = absurd own
own_unfailed A _ own = tt

-- no more events
pub trail_ends :
    {A : Type 0} (may : May) (value : Result A Status) (events : List Event) (result : Result A Status)
    → IsWithoutFailure value → Ends value events result → MayHappen may events result
trail_ends may value events result unfailed ends =
    subst (λ e. MayHappen may e result) (sym ends.none) (subst IsWithoutFailure (sym ends.result_is) unfailed)

pub goes_trail :
    {may : May} {A : Type 0} (p : Program may A) (events : List Event) (result : Result A Status) → Goes p events result
    → MayHappen may events result
unfolding Goes
goes_trail {may = may} (done a) events result goes = trail_ends may (Ok a) events result tt goes
goes_trail {may = may} {A = A} (stops s own) events result goes =
    trail_ends may (Err s) events result (own_unfailed A s own) goes
goes_trail {may = may} (reads name go) events result goes =
    subst (λ e. MayHappen may e result) (sym goes.first)
    (read_map goes.answer _ (λ found more. MayHappen may goes.more result) goes.more result
    (λ found on. goes_trail (go found) goes.more result on) goes.rest)
goes_trail {may = may} (writes allowed name content p) events result goes =
    subst (λ e. MayHappen may e result) (sym goes.first) (
      allowed,
      write_map goes.answer _ (λ more. MayHappen may goes.more result) goes.more result
          (λ on. goes_trail p goes.more result on) goes.rest,
    )
goes_trail {may = may} (puts piece p) events result (inl goes) =
    subst (λ e. MayHappen may e result) (sym goes.first) (goes_trail p goes.more result goes.rest)
goes_trail {may = may} (puts piece p) events result (inr failed) =
    subst (λ e. MayHappen may e result) (sym failed.only) (record {
      none = refl;
      result_is = fails_with failed.pieces _ result (λ on. goes_failed p failed.pieces result on) failed.rest;
    })
goes_trail {may = may} (takes allowed go) events result (inl goes) =
    subst (λ e. MayHappen may e result) (sym goes.first) (allowed, goes_trail (go goes.piece) goes.more result goes.rest)
goes_trail {may = may} (takes allowed go) events result (inr failed) =
    subst (λ e. MayHappen may e result) (sym failed.only) (allowed, record { none = refl; result_is = failed.result_is })
goes_trail (some Is go) events result goes = goes_trail (go goes.value) events result goes.rest
goes_trail (wants p) events result (inl goes) = goes_trail p events result goes
goes_trail {may = may} {A = A} (wants p) events result (inr ends) =
    trail_ends may (Err status.NoMemory) events result tt ends

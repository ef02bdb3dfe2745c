-- A program without a dead end has events that lead it to an end.
use Rattle.std.proofs.Common.{List, [], ◌∷◌, ℕ, Result, Ok, Err, refl, inl}
use Rattle.m36_outside.specs.declared.folder.ReadAnswer.TheVariants as read
use Rattle.m36_outside.specs.declared.folder.WriteAnswer.TheVariants as write
use Rattle.m36_world.specs.declared.event.Event.{Event}
use Rattle.m36_world.specs.declared.event.Event.TheVariants.{FileRead, FileWrite, Output, Input}
use Rattle.m36_status.specs.declared.status.Status.{Status}
use Rattle.m36_program.specs.Program.{Absent, May, Program, puts_all}
use Rattle.m36_program.specs.Program.{done, stops, reads, writes, puts, takes, some, wants}
use Rattle.m36_program.specs.Ended.{HasEnd}
use Rattle.m36_program.specs.Goes.{Goes}
use Rattle.m36_program.specs.HasNoDeadEnd.{HasNoDeadEnd}

-- ---- parts

pub lives_puts :
    {may : May} {A : Type 0} (pieces : List (List ℕ)) (p : Program may A) → HasNoDeadEnd p → HasNoDeadEnd (puts_all pieces p)
unfolding HasNoDeadEnd puts_all
lives_puts [] p live = live
lives_puts (piece ∷ pieces) p live = lives_puts pieces p live

-- ---- an end

-- from the end of the program that follows a step
has_end_after :
    {may : May} {A : Type 0} (p q : Program may A) (before : List Event → List Event)
    → ((events : List Event) (result : Result A Status) → Goes q events result → Goes p (before events) result)
    → HasEnd q → HasEnd p
has_end_after p q before on has none = has (λ events result goes. none (before events) result (on events result goes))

pub live_end : {may : May} {A : Type 0} (p : Program may A) → HasNoDeadEnd p → HasEnd p
unfolding Goes HasNoDeadEnd
live_end (done a) live = λ none. none [] (Ok a) (record { none = refl; result_is = refl }) tt
live_end (stops s own) live = λ none. none [] (Err s) (record { none = refl; result_is = refl }) own
live_end (reads name go) live =
    has_end_after (reads name go) (go Absent) (λ events. FileRead name read.Absent ∷ events)
    (λ events result goes. record { answer = read.Absent; more = events; first = refl; rest = goes })
    (live_end (go Absent) (live Absent))
live_end (writes allowed name content p) live =
    has_end_after (writes allowed name content p) p (λ events. FileWrite name content write.Written ∷ events)
    (λ events result goes. record { answer = write.Written; more = events; first = refl; rest = goes })
    (live_end p live)
live_end (puts piece p) live =
    has_end_after (puts piece p) p (λ events. Output piece ∷ events)
    (λ events result goes. inl (record { more = events; first = refl; rest = goes })) (live_end p live)
live_end (takes allowed go) live =
    has_end_after (takes allowed go) (go []) (λ events. Input [] ∷ events)
    (λ events result goes. inl (record { piece = []; more = events; first = refl; rest = goes }))
    (live_end (go []) (live []))
live_end (some Is go) live =
    λ none. live.value (λ b is. has_end_after (some Is go) (go b) (λ events. events)
    (λ events result goes. record { value = b; is = is; rest = goes }) (live_end (go b) (live.each b is)) none)
live_end (wants p) live =
    has_end_after (wants p) p (λ events. events) (λ events result goes. inl goes) (live_end p live)

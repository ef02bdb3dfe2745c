-- A session reads no file.
use Rattle.std.specs.Prelude.{⊤}
use Rattle.std.proofs.Common.{◌≡◌, ℕ, zero, suc, List, [], ◌∷◌, ◌++◌, Result, sym, ap, subst, ◌∙◌, inl, inr}
use Rattle.m36_world.specs.Happened.{IsFileWrite, IsOutput, IsOutputFailed, IsInput, IsInputFailed}
use Rattle.m36_world.specs.Follow.{Follow}
use Rattle.m36_world.specs.Seen.{Seen}
use Rattle.m36_world.specs.declared.event.Event.{Event}
use Rattle.m36_world.specs.declared.event.Event.TheVariants.{FileRead, FileWrite, Output, OutputFailed, Input, InputFailed}
use Rattle.m36_outside.specs.declared.folder.WriteAnswer.{WriteAnswer}
use Rattle.m36_outside.specs.declared.folder.WriteAnswer.TheVariants as write
use Rattle.m36_status.specs.declared.status.Status.{Status}
use Rattle.m36_program.specs.Goes.{AfterWrite, Goes}
use Rattle.m36_program.specs.Performs.{Performs}
use Rattle.m36_program.specs.Program.{May, Program, done, stops, reads, writes, puts, takes, some, wants, puts_all}
use Rattle.m36_debug.specs.Replies.{Reply, All, Quits, Breaks, IsReply, IsLastReply}
use Rattle.m36_debug.specs.Session.{MachineRelations, Waiting, standing}
use Rattle.m36_debug.specs.SessionProgram.{Talk, too_long, starves, takes_within, on_reply, replies, answer_at_end, by_piece, session_from, session}
use Rattle.m36_debug.specs.SessionContract.{bytes_limit}
use Rattle.m36_debug.specs.SessionState.{SessionStateFields, initial_session_state}

-- ---- events

abbrev pub NoReads : List Event → Type 0
NoReads [] = ⊤
NoReads (FileRead name answer ∷ more) = ⊥
NoReads (FileWrite name content answer ∷ more) = NoReads more
NoReads (Output piece ∷ more) = NoReads more
NoReads (OutputFailed pieces ∷ more) = NoReads more
NoReads (Input piece ∷ more) = NoReads more
NoReads (InputFailed ∷ more) = NoReads more

-- No read was answered, and none failed.
pub record Unread (old new : Seen) : Type 0 where
  pub reads : new.reads ≡ old.reads
  pub faults : new.read_faults ≡ old.read_faults

unread_on : (old between new : Seen) → between.reads ≡ old.reads → between.read_faults ≡ old.read_faults → Unread between new → Unread old new
unread_on old between new same_reads same_faults later = record { reads = later.reads ∙ same_reads; faults = later.faults ∙ same_faults }

pub no_reads : (events : List Event) (old new : Seen) → NoReads events → Follow events old new → Unread old new
unfolding Follow
no_reads [] old new none follow = record { reads = ap (λ s. s.reads) follow; faults = ap (λ s. s.read_faults) follow }
no_reads (FileRead name answer ∷ more) old new none follow = absurd none
no_reads (FileWrite name content answer ∷ more) old new none follow =
    let did : IsFileWrite name content answer old follow.between = follow.begins in
    unread_on old follow.between new (ap (λ s. s.reads) did.rest) (ap (λ s. s.read_faults) did.rest) (no_reads more follow.between new none follow.goes_on)
no_reads (Output piece ∷ more) old new none follow =
    let did : IsOutput piece old follow.between = follow.begins in
    unread_on old follow.between new (ap (λ s. s.reads) did.rest) (ap (λ s. s.read_faults) did.rest) (no_reads more follow.between new none follow.goes_on)
no_reads (OutputFailed pieces ∷ more) old new none follow =
    let did : IsOutputFailed pieces old follow.between = follow.begins in
    unread_on old follow.between new (ap (λ s. s.reads) did.rest) (ap (λ s. s.read_faults) did.rest) (no_reads more follow.between new none follow.goes_on)
no_reads (Input piece ∷ more) old new none follow =
    let did : IsInput piece old follow.between = follow.begins in
    unread_on old follow.between new (ap (λ s. s.reads) did.rest) (ap (λ s. s.read_faults) did.rest) (no_reads more follow.between new none follow.goes_on)
no_reads (InputFailed ∷ more) old new none follow =
    let did : IsInputFailed old follow.between = follow.begins in
    unread_on old follow.between new (ap (λ s. s.reads) did.rest) (ap (λ s. s.read_faults) did.rest) (no_reads more follow.between new none follow.goes_on)

-- ---- programs

-- No event of the program is a read of a file.
unfoldable pub ReadsNone : {may : May} {A : Type 0} → Program may A → Type 0
ReadsNone (done a) = ⊤
ReadsNone (stops status own) = ⊤
ReadsNone (reads name go) = ⊥
ReadsNone (writes allowed name content rest) = ReadsNone rest
ReadsNone (puts piece rest) = ReadsNone rest
ReadsNone (takes allowed go) = (piece : List ℕ) → ReadsNone (go piece)
ReadsNone {may} {A} (some {B} Is go) = (b : B) → Is b → ReadsNone (go b)
ReadsNone (wants rest) = ReadsNone rest

none_at : (events : List Event) → events ≡ [] → NoReads events
none_at events is = subst NoReads (sym is) tt

after_write :
    {A : Type 0} (answer : WriteAnswer) (goes : List Event → Type 0) (more : List Event) (result : Result A Status)
    → (goes more → NoReads more) → AfterWrite answer goes more result → NoReads more
after_write write.Written goes more result on after = on after
after_write write.Failed goes more result on after = none_at more after.none
after_write write.NoMemory goes more result on after = none_at more after.none

pub goes_unread :
    {may : May} {A : Type 0} (p : Program may A) (events : List Event) (result : Result A Status)
    → ReadsNone p → Goes p events result → NoReads events
unfolding ReadsNone Goes
goes_unread (done a) events result none goes = none_at events goes.none
goes_unread (stops status own) events result none goes = none_at events goes.none
goes_unread (reads name go) events result none goes = absurd none
goes_unread (writes allowed name content rest) events result none goes =
    subst NoReads (sym goes.first)
    (after_write goes.answer (λ more. Goes rest more result) goes.more result (λ on. goes_unread rest goes.more result none on) goes.rest)
goes_unread (puts piece rest) events result none (inl goes) =
    subst NoReads (sym goes.first) (goes_unread rest goes.more result none goes.rest)
goes_unread (puts piece rest) events result none (inr fails) = subst NoReads (sym fails.only) tt
goes_unread (takes allowed go) events result none (inl goes) =
    subst NoReads (sym goes.first) (goes_unread (go goes.piece) goes.more result (none goes.piece) goes.rest)
goes_unread (takes allowed go) events result none (inr fails) = subst NoReads (sym fails.only) tt
goes_unread (some Is go) events result none goes = goes_unread (go goes.value) events result (none goes.value goes.is) goes.rest
goes_unread (wants rest) events result none (inl goes) = goes_unread rest events result none goes
goes_unread (wants rest) events result none (inr ends) = none_at events ends.none

-- ---- a session

puts_unread : (pieces : List (List ℕ)) (rest : Talk) → ReadsNone rest → ReadsNone (puts_all pieces rest)
unfolding ReadsNone puts_all
puts_unread [] rest none = none
puts_unread (piece ∷ pieces) rest none = puts_unread pieces rest none

starves_unread : ReadsNone starves
unfolding ReadsNone starves
starves_unread = λ u is. absurd is

done_unread : ReadsNone (let p : Talk = done tt in p)
unfolding ReadsNone
done_unread = tt

reply_unread :
    {M : Type 0} (on : List ℕ → SessionStateFields → M → Talk) (reply : Reply M)
    → ((kept : List ℕ) (s : SessionStateFields) (m : M) → ReadsNone (on kept s m)) → ReadsNone (on_reply on reply)
reply_unread on (All written kept s m) none = puts_unread written (on kept s m) (none kept s m)
reply_unread on (Quits written) none = puts_unread written (done tt) done_unread
reply_unread on (Breaks written) none = puts_unread written starves starves_unread

replies_unread :
    {M : Type 0} (Is : Reply M → Type 0) (on : List ℕ → SessionStateFields → M → Talk)
    → ((kept : List ℕ) (s : SessionStateFields) (m : M) → ReadsNone (on kept s m)) → ReadsNone (replies Is on)
unfolding ReadsNone replies
replies_unread Is on none = λ reply is. reply_unread on reply none

end_unread : {M : Type 0} (o : MachineRelations M) (begun : List ℕ) (s : SessionStateFields) (m : M) → ReadsNone (answer_at_end o begun s m)
end_unread o begun s m = replies_unread (IsLastReply o (standing s Waiting) m begun) (λ kept sitting later. done tt) (λ kept sitting later. done_unread)

takes_unread : (most : ℕ) (go : List ℕ → Talk) → ((piece : List ℕ) → ReadsNone (go piece)) → ReadsNone (takes_within most go)
unfolding ReadsNone takes_within
takes_unread most go none = λ piece u within. none piece

piece_unread :
    (end : Talk) (more : ℕ → List ℕ → Talk) (piece : List ℕ)
    → ReadsNone end → ((n : ℕ) (p : List ℕ) → ReadsNone (more n p)) → ReadsNone (by_piece end more piece)
piece_unread end more [] last on = last
piece_unread end more (byte ∷ bytes) last on = on _ (byte ∷ bytes)

too_long_unread : ReadsNone too_long
unfolding ReadsNone too_long
too_long_unread = tt

from_unread :
    {M : Type 0} (o : MachineRelations M) (left taken : ℕ) (begun : List ℕ) (s : SessionStateFields) (m : M) → ReadsNone (session_from o left taken begun s m)
unfolding session_from
from_unread o zero zero begun s m =
    takes_unread 1 (by_piece (answer_at_end o begun s m) (λ taken piece. too_long)) (λ piece.
    piece_unread (answer_at_end o begun s m) (λ taken p. too_long) piece (end_unread o begun s m) (λ n p. too_long_unread))
from_unread o zero (suc taken) begun s m = too_long_unread
from_unread {M} o (suc left) zero begun s m =
    let more : ℕ → List ℕ → Talk = λ taken p. replies (IsReply o (standing s Waiting) m (begun ++ p)) (session_from o left taken) in
    takes_unread (suc left) (by_piece (answer_at_end o begun s m) more) (λ piece.
    piece_unread (answer_at_end o begun s m) more piece (end_unread o begun s m) (λ n p.
    replies_unread (IsReply o (standing s Waiting) m (begun ++ p)) (session_from o left n) (λ kept sitting later. from_unread o left n kept sitting later)))
from_unread o (suc left) (suc taken) begun s m = from_unread o left taken begun s m

pub session_unread :
    {M : Type 0} (o : MachineRelations M) (m : M) (result : Result (Unit {0}) Status) (old new : Seen)
    → Performs (session o m) result old new → Unread old new
unfolding session
session_unread o m result old new performs =
    no_reads performs.events old new
    (goes_unread (session o m) performs.events result (from_unread o bytes_limit 0 [] initial_session_state m) performs.goes) performs.follow

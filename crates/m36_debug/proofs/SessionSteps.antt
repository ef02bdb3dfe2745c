-- A session, piece by piece: what is left of its program.
use Rattle.std.proofs.Common.{◌≡◌, ◌≤◌, ◌<◌, ◌-◌, ℕ, zero, suc, List, [], ◌∷◌, ◌++◌, length, take, Ok, Err, refl, sym, ap, subst, ◌∙◌, arith, length-take}
use Rattle.m36_text.specs.Lines.{open_last_line}
use Rattle.m36_world.specs.Happened.{IsInput, IsInputFailed}
use Rattle.m36_world.specs.Seen.{Seen}
use Rattle.m36_world.proofs.Following.{follow_none}
use Rattle.m36_program.specs.Goes.{Goes}
use Rattle.m36_program.specs.Performs.{Performs, Leads}
use Rattle.m36_program.proofs.LeadLaws.{leads_start, leads_as, leads_ends}
use Rattle.m36_debug.specs.Parts.{LineContract}
use Rattle.m36_debug.specs.PieceContract.{PieceContract, AnsweredAll, AnsweredQuit, AnsweredSome, AnsweredCut}
use Rattle.m36_debug.specs.Putting.{pending}
use Rattle.m36_debug.specs.Replies.{IsReply}
use Rattle.m36_debug.specs.Session.{MachineRelations, Waiting, SessionPoint, standing}
use Rattle.m36_debug.specs.SessionProgram.{Talk, too_long, takes_within, replies, answer_at_end, by_piece, session_from, session, ended_by}
use Rattle.m36_debug.specs.SessionContract.{bytes_limit, session_result}
use Rattle.m36_debug.specs.SessionState.{SessionStateFields, initial_session_state}
use Rattle.m36_debug.specs.Taking.{IsPieceTaken}
use Rattle.m36_debug.specs.declared.fault.SessionFault.TheVariants as fault
use Rattle.m36_debug.specs.declared.machine_relations.LineResult.{LineResult}
use Rattle.m36_debug.proofs.ReplyLaws.{leads_taken, leads_untaken, ended_so, piece_all, piece_quit, piece_starved, piece_cut}

-- what is left of a session before a piece is taken
abbrev pub Left : {M : Type 0} → MachineRelations M → ℕ → List ℕ → SessionStateFields → M → Talk → Seen → Seen → Type 0
Left o left begun s m first old new = Leads (session_from o left 0 begun s m) first old new

-- ---- the forms of the program

-- after a piece that has a byte
abbrev answered : {M : Type 0} → MachineRelations M → ℕ → ℕ → List ℕ → List ℕ → SessionStateFields → M → Talk
answered o left taken piece begun s m =
    replies (IsReply o (standing s Waiting) m (begun ++ piece)) (session_from o left taken)

-- by the next piece, if one more byte may be taken
abbrev on_piece : {M : Type 0} → MachineRelations M → ℕ → List ℕ → SessionStateFields → M → List ℕ → Talk
on_piece o left begun s m = by_piece (answer_at_end o begun s m) (λ taken piece. answered o left taken piece begun s m)

-- by the next piece, if no further byte may be taken
abbrev on_last_piece : {M : Type 0} → MachineRelations M → List ℕ → SessionStateFields → M → List ℕ → Talk
on_last_piece o begun s m = by_piece (answer_at_end o begun s m) (λ taken piece. too_long)

one_more :
    {M : Type 0} (o : MachineRelations M) (left : ℕ) (begun : List ℕ) (s : SessionStateFields) (m : M)
    → session_from o (suc left) 0 begun s m ≡ takes_within (suc left) (on_piece o left begun s m)
unfolding session_from
one_more o left begun s m = refl

pub some_left :
    {M : Type 0} (o : MachineRelations M) (left : ℕ) (begun : List ℕ) (s : SessionStateFields) (m : M)
    → 0 < left → session_from o left 0 begun s m ≡ takes_within left (on_piece o (left - 1) begun s m)
some_left o left begun s m some =
    let is : left ≡ suc (left - 1) = omega arith in
    ap (λ n. session_from o n 0 begun s m) is ∙ one_more o (left - 1) begun s m
    ∙ ap (λ n. takes_within n (on_piece o (left - 1) begun s m)) (sym is)

none_more :
    {M : Type 0} (o : MachineRelations M) (begun : List ℕ) (s : SessionStateFields) (m : M)
    → session_from o 0 0 begun s m ≡ takes_within 1 (on_last_piece o begun s m)
unfolding session_from
none_more o begun s m = refl

pub none_left :
    {M : Type 0} (o : MachineRelations M) (left : ℕ) (begun : List ℕ) (s : SessionStateFields) (m : M)
    → left ≡ 0 → session_from o left 0 begun s m ≡ takes_within 1 (on_last_piece o begun s m)
none_left o left begun s m none = ap (λ n. session_from o n 0 begun s m) none ∙ none_more o begun s m

-- bytes that were taken already are no longer left
taken_more :
    {M : Type 0} (o : MachineRelations M) (left taken : ℕ) (begun : List ℕ) (s : SessionStateFields) (m : M)
    → session_from o (suc left) (suc taken) begun s m ≡ session_from o left taken begun s m
unfolding session_from
taken_more o left taken begun s m = refl

pub taken_off :
    {M : Type 0} (o : MachineRelations M) (left taken : ℕ) (begun : List ℕ) (s : SessionStateFields) (m : M)
    → taken ≤ left → session_from o left taken begun s m ≡ session_from o (left - taken) 0 begun s m
taken_off o zero zero begun s m within = refl
taken_off o zero (suc taken) begun s m within = absurd (omega (arith, within))
taken_off o (suc left) zero begun s m within =
    ap (λ n. session_from o n 0 begun s m) (let is : suc left ≡ suc left - 0 = omega arith in is)
taken_off o (suc left) (suc taken) begun s m within =
    taken_more o left taken begun s m ∙ taken_off o left taken begun s m (omega (arith, within))
    ∙ ap (λ n. session_from o n 0 begun s m) (let is : left - taken ≡ suc left - suc taken = omega arith in is)

-- ---- the input

pub session_starts :
    {M : Type 0} (o : MachineRelations M) (left : ℕ) (begun : List ℕ) (s : SessionStateFields) (m : M) (seen : Seen)
    → left ≡ bytes_limit → begun ≡ [] → s ≡ initial_session_state → Left o left begun s m (session o m) seen seen
unfolding session
session_starts o left begun s m seen all none new =
    leads_as (session o m) (session_from o left 0 begun s m) (session o m) seen seen
    (ap (λ n. session_from o n 0 [] initial_session_state m) (sym all)
    ∙ ap (λ b. session_from o left 0 b initial_session_state m) (sym none)
    ∙ ap (λ t. session_from o left 0 begun t m) (sym new))
    (leads_start (session o m) seen)

-- the next piece is to be taken
at_some :
    {M : Type 0} (o : MachineRelations M) (left : ℕ) (begun : List ℕ) (s : SessionStateFields) (m : M) (first : Talk) (old new : Seen)
    → Left o left begun s m first old new → 0 < left → Leads (takes_within left (on_piece o (left - 1) begun s m)) first old new
at_some o left begun s m first old new so_far some =
    leads_as (session_from o left 0 begun s m) (takes_within left (on_piece o (left - 1) begun s m)) first old new (some_left o left begun s m some) so_far

at_none :
    {M : Type 0} (o : MachineRelations M) (left : ℕ) (begun : List ℕ) (s : SessionStateFields) (m : M) (first : Talk) (old new : Seen)
    → Left o left begun s m first old new → left ≡ 0 → Leads (takes_within 1 (on_last_piece o begun s m)) first old new
at_none o left begun s m first old new so_far none =
    leads_as (session_from o left 0 begun s m) (takes_within 1 (on_last_piece o begun s m)) first old new (none_left o left begun s m none) so_far

-- the input failed
pub unread :
    {M : Type 0} (o : MachineRelations M) (left : ℕ) (begun : List ℕ) (s : SessionStateFields) (m : M) (first : Talk) (old between new : Seen)
    → Left o left begun s m first old between → 0 < left → IsInputFailed between new
    → Performs first (ended_by (Err fault.ReadFault)) old new
unread o left begun s m first old between new so_far some did =
    leads_untaken left (on_piece o (left - 1) begun s m) first old between new (at_some o left begun s m first old between so_far some) did

pub unread_last :
    {M : Type 0} (o : MachineRelations M) (left : ℕ) (begun : List ℕ) (s : SessionStateFields) (m : M) (first : Talk) (old between new : Seen)
    → Left o left begun s m first old between → left ≡ 0 → IsInputFailed between new
    → Performs first (ended_by (Err fault.ReadFault)) old new
unread_last o left begun s m first old between new so_far none did =
    leads_untaken 1 (on_last_piece o begun s m) first old between new (at_none o left begun s m first old between so_far none) did

-- the input has ended
pub input_ended :
    {M : Type 0} (o : MachineRelations M) (left : ℕ) (begun : List ℕ) (s : SessionStateFields) (m : M) (end : LineResult) (sitting : SessionStateFields) (m' : M) (first : Talk)
    (old between mid new : Seen)
    → Left o left begun s m first old between → 0 < left → IsInput [] between mid
    → LineContract o end (standing s Waiting) m (open_last_line begun) sitting m' (pending [] mid) (pending [] new)
    → Performs first (ended_by (session_result end)) old new
input_ended o left begun s m end sitting m' first old between mid new so_far some did said =
    ended_so o end begun s sitting m m' first old mid new
    (leads_taken left (on_piece o (left - 1) begun s m) first [] old between mid (at_some o left begun s m first old between so_far some) did (omega arith))
    said

pub input_ended_last :
    {M : Type 0} (o : MachineRelations M) (left : ℕ) (begun : List ℕ) (s : SessionStateFields) (m : M) (end : LineResult) (sitting : SessionStateFields) (m' : M) (first : Talk)
    (old between mid new : Seen)
    → Left o left begun s m first old between → left ≡ 0 → IsInput [] between mid
    → LineContract o end (standing s Waiting) m (open_last_line begun) sitting m' (pending [] mid) (pending [] new)
    → Performs first (ended_by (session_result end)) old new
input_ended_last o left begun s m end sitting m' first old between mid new so_far none did said =
    ended_so o end begun s sitting m m' first old mid new
    (leads_taken 1 (on_last_piece o begun s m) first [] old between mid (at_none o left begun s m first old between so_far none) did (omega arith))
    said

-- a piece was taken that has a byte
by_some :
    (end : Talk) (more : ℕ → List ℕ → Talk) (piece : List ℕ) → 1 ≤ length piece → by_piece end more piece ≡ more (length piece - 1) piece
by_some end more [] some = absurd (omega (arith, some))
by_some end more (byte ∷ bytes) some = ap (λ n. more n (byte ∷ bytes)) (let is : length bytes ≡ suc (length bytes) - 1 = omega arith in is)

pub taken_length :
    (count most : ℕ) (buffer : List ℕ) (old new : Seen) → IsPieceTaken count most buffer old new → length (take count buffer) ≡ count
taken_length count most buffer old new taken = omega (arith, length-take count buffer, taken.room)

pub piece_taken :
    {M : Type 0} (o : MachineRelations M) (left count : ℕ) (begun buffer : List ℕ) (s : SessionStateFields) (m : M) (first : Talk) (old between new : Seen)
    → Left o left begun s m first old between → 0 < left → IsPieceTaken count left buffer between new
    → Leads (answered o (left - 1) (count - 1) (take count buffer) begun s m) first old new
piece_taken o left count begun buffer s m first old between new so_far some taken =
    let piece = take count buffer in
    let size : length piece ≡ count = taken_length count left buffer between new taken in
    leads_as (on_piece o (left - 1) begun s m piece) (answered o (left - 1) (count - 1) piece begun s m) first old new
    (by_some (answer_at_end o begun s m) (λ n p. answered o (left - 1) n p begun s m) piece (omega (arith, size, taken.some))
    ∙ ap (λ n. answered o (left - 1) (n - 1) piece begun s m) size)
    (leads_taken left (on_piece o (left - 1) begun s m) first piece old between new (at_some o left begun s m first old between so_far some) taken.input
    (omega (arith, size, taken.within)))

-- the piece has the byte that is one too many
goes_too_long : Goes too_long [] (ended_by (Err fault.TooLong))
unfolding Goes too_long
goes_too_long = record { none = refl; result_is = refl }

pub one_too_many :
    {M : Type 0} (o : MachineRelations M) (left count : ℕ) (begun buffer : List ℕ) (s : SessionStateFields) (m : M) (first : Talk) (old between new : Seen)
    → Left o left begun s m first old between → left ≡ 0 → IsPieceTaken count 1 buffer between new
    → Performs first (ended_by (Err fault.TooLong)) old new
one_too_many o left count begun buffer s m first old between new so_far none taken =
    let piece = take count buffer in
    let size : length piece ≡ count = taken_length count 1 buffer between new taken in
    leads_ends too_long first (ended_by (Err fault.TooLong)) old new new
    (leads_as (on_last_piece o begun s m piece) too_long first old new
    (by_some (answer_at_end o begun s m) (λ n p. too_long) piece (omega (arith, size, taken.some)))
    (leads_taken 1 (on_last_piece o begun s m) first piece old between new (at_none o left begun s m first old between so_far none) taken.input
    (omega (arith, size, taken.within))))
    (record { events = []; follow = follow_none new; goes = goes_too_long })

-- ---- a piece was answered

pub session_next :
    {M : Type 0} (o : MachineRelations M) (left count : ℕ) (begun kept buffer : List ℕ) (s sitting : SessionStateFields) (m m' : M) (first : Talk)
    (old between mid new : Seen)
    → Left o left begun s m first old between → 0 < left → IsPieceTaken count left buffer between mid
    → AnsweredAll o (standing s Waiting) m (begun ++ take count buffer) kept sitting m' (pending [] mid) (pending [] new)
    → Left o (left - count) kept sitting m' first old new
session_next o left count begun kept buffer s sitting m m' first old between mid new so_far some taken said =
    leads_as (session_from o (left - 1) (count - 1) kept sitting m') (session_from o (left - count) 0 kept sitting m') first old new
    (taken_off o (left - 1) (count - 1) kept sitting m' (omega (arith, taken.within, some))
    ∙ ap (λ n. session_from o n 0 kept sitting m')
    (let is : (left - 1) - (count - 1) ≡ left - count = omega (arith, taken.some, taken.within) in is))
    (piece_all o (begun ++ take count buffer) kept s sitting m m' (session_from o (left - 1) (count - 1)) first old mid new
    (piece_taken o left count begun buffer s m first old between mid so_far some taken) said)

pub session_quits :
    {M : Type 0} (o : MachineRelations M) (left count : ℕ) (begun buffer : List ℕ) (s sitting : SessionStateFields) (m m' : M) (first : Talk)
    (old between mid new : Seen)
    → Left o left begun s m first old between → 0 < left → IsPieceTaken count left buffer between mid
    → AnsweredQuit o (standing s Waiting) m (begun ++ take count buffer) sitting m' (pending [] mid) (pending [] new)
    → Performs first (ended_by (Ok tt)) old new
session_quits o left count begun buffer s sitting m m' first old between mid new so_far some taken said =
    piece_quit o (begun ++ take count buffer) s sitting m m' (session_from o (left - 1) (count - 1)) first old mid new
    (piece_taken o left count begun buffer s m first old between mid so_far some taken) said

pub session_starved :
    {M : Type 0} (o : MachineRelations M) (left count : ℕ) (begun buffer : List ℕ) (s : SessionStateFields) (m m' : M) (first : Talk)
    (old between mid new : Seen)
    → Left o left begun s m first old between → 0 < left → IsPieceTaken count left buffer between mid
    → AnsweredSome o (standing s Waiting) m (begun ++ take count buffer) m' (pending [] mid) (pending [] new)
    → Performs first (ended_by (Err fault.NoMemory)) old new
session_starved o left count begun buffer s m m' first old between mid new so_far some taken said =
    piece_starved o (begun ++ take count buffer) s m m' (session_from o (left - 1) (count - 1)) first old mid new
    (piece_taken o left count begun buffer s m first old between mid so_far some taken) said

pub session_cut :
    {M : Type 0} (o : MachineRelations M) (left count : ℕ) (begun buffer : List ℕ) (s : SessionStateFields) (m m' : M) (first : Talk)
    (old between mid new : Seen)
    → Left o left begun s m first old between → 0 < left → IsPieceTaken count left buffer between mid
    → AnsweredCut o (standing s Waiting) m (begun ++ take count buffer) m' (pending [] mid) (pending [] new)
    → Performs first (ended_by (Err fault.WriteFault)) old new
session_cut o left count begun buffer s m m' first old between mid new so_far some taken said =
    piece_cut o (begun ++ take count buffer) s m m' (session_from o (left - 1) (count - 1)) first old mid new
    (piece_taken o left count begun buffer s m first old between mid so_far some taken) said

-- ---- over an empty block

pub says_empty :
    {M : Type 0} (o : MachineRelations M) (end : LineResult) (s : SessionPoint) (m : M) (text kept : List ℕ) (sitting : SessionStateFields) (m' : M)
    (block block' : List (List ℕ)) (old new : Seen)
    → block ≡ [] → block' ≡ [] → PieceContract o end s m text kept sitting m' (pending block old) (pending block' new)
    → PieceContract o end s m text kept sitting m' (pending [] old) (pending [] new)
says_empty o end s m text kept sitting m' block block' old new none none' says =
    subst (λ b. PieceContract o end s m text kept sitting m' (pending [] old) (pending b new)) none'
    (subst (λ b. PieceContract o end s m text kept sitting m' (pending b old) (pending block' new)) none says)

pub end_empty :
    {M : Type 0} (o : MachineRelations M) (end : LineResult) (s : SessionPoint) (m : M) (lines : List (List ℕ)) (sitting : SessionStateFields) (m' : M)
    (block block' : List (List ℕ)) (old new : Seen)
    → block ≡ [] → block' ≡ [] → LineContract o end s m lines sitting m' (pending block old) (pending block' new)
    → LineContract o end s m lines sitting m' (pending [] old) (pending [] new)
end_empty o end s m lines sitting m' block block' old new none none' says =
    subst (λ b. LineContract o end s m lines sitting m' (pending [] old) (pending b new)) none'
    (subst (λ b. LineContract o end s m lines sitting m' (pending b old) (pending block' new)) none says)

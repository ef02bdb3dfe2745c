-- The text of a session follows from the bytes of its input, if its machine is deterministic, or if its turns are
-- plain.
use Rattle.std.proofs.Common.{◌≡◌, ◌+◌, ◌-◌, ◌<◌, ◌≤◌, ℕ, List, [], ◌∷◌, ◌++◌, length, take, drop, All, Option, Some}
use Rattle.std.proofs.Common.{None, Result, Ok, Err}
use Rattle.std.proofs.Common.{refl, sym, ap, subst, ◌∙◌, inl, inr, arith, length-append}
use Rattle.std.specs.Io.KnownBytes.{IsAtEnd}
use Rattle.std.proofs.Math.Seq.{take-append-add}
use Rattle.std.proofs.lemmas.List.{append-nil, append_assoc, take-append-drop, take-append-le}
use Rattle.std.proofs.lemmas.List.Elements.{All-head, All-tail}
use Rattle.m36_outside.specs.Passing.{joined}
use Rattle.m36_outside.specs.Piece.{prepended}
use Rattle.m36_outside.specs.declared.sink.Put.TheVariants.{Done}
use Rattle.m36_text.specs.Lines.{open_lines_of}
use Rattle.m36_step.specs.declared.turns.Turn.{Turn}
use Rattle.m36_world.specs.Seen.{Seen}
use Rattle.m36_world.specs.declared.event.Event.{Event}
use Rattle.m36_status.specs.declared.status.Status.{Status}
use Rattle.m36_program.specs.Alike.{IsEnd, OneText}
use Rattle.m36_program.specs.Performs.{Performs}
use Rattle.m36_program.specs.MayHappen.{pieces_of}
use Rattle.m36_debug.specs.declared.fault.SessionFault.{SessionFault}
use Rattle.m36_debug.specs.declared.fault.SessionFault.TheVariants as fault
use Rattle.m36_debug.specs.declared.session_line.SessionLine.TheVariants.{Quit}
use Rattle.m36_debug.specs.LinesTaken.{whole_lines, IsFirstPart}
use Rattle.m36_debug.specs.Session.{MachineRelations, Activity, Waiting, standing, lines_in, texts_of}
use Rattle.m36_debug.specs.SessionLines.{session_line, IsNotQuit}
use Rattle.m36_debug.specs.SessionProgram.{session, ended_by}
use Rattle.m36_debug.specs.SessionContract.{LinesSeen, IsSession, TookLinesBy, TookSome, TookWhole, HasEnded, CountBy}
use Rattle.m36_debug.specs.SessionContract.{bytes_limit, last_put_of}
use Rattle.m36_debug.specs.SessionState.{initial_session_state}
use Rattle.m36_debug.specs.SessionText.{IsTooLong, IsHeld, IsDeterministic, EachTurn, SessionLaw}
use Rattle.m36_debug.proofs.FirstLines.{first_all, first_longer, first_both, first_agree, whole_first, open_first}
use Rattle.m36_debug.proofs.SessionBridge.{Held, Puts, session_held}
use Rattle.m36_debug.proofs.TextLaws.{AnyTurn, IsFurther, StayAlike, any_turn, deterministic_alike, first_texts}
use Rattle.m36_debug.proofs.Unreading.{session_unread}

-- ---- the bytes of the input

-- The input showed these bytes, of which `taken` were taken.
record Known (taken bytes : List ℕ) (after : Option (List ℕ)) : Type 0 where
  rest : List ℕ
  all : bytes ≡ taken ++ rest
  left : after ≡ Some rest

not_none : {P : Type 0} (bytes : List ℕ) → Some bytes ≡ None → P
not_none bytes is = absurd (cc)

same_some : (x y : List ℕ) → Some x ≡ Some y → x ≡ y
same_some x y is = cc

known : (taken bytes : List ℕ) (before after : Option (List ℕ)) → before ≡ Some bytes → before ≡ prepended taken after
    → Known taken bytes after
known taken bytes before None is came = not_none bytes (sym is ∙ came)
known taken bytes before (Some rest) is came =
    record { rest = rest; all = same_some bytes (taken ++ rest) (sym is ∙ came); left = refl }

-- all were taken
ended_all : (pieces : List (List ℕ)) (bytes : List ℕ) (after : LinesSeen) → HasEnded pieces after
    → Known (joined pieces) bytes after.left → bytes ≡ joined pieces
ended_all pieces bytes after ended k =
    let none : IsAtEnd (Some k.rest) = subst IsAtEnd k.left ended.none in
    k.all ∙ ap (λ r. joined pieces ++ r) none ∙ append-nil (joined pieces)

-- then they are not too many
ended_short :
    {P : Type 0} (pieces : List (List ℕ)) (bytes : List ℕ) (after : LinesSeen)
    → HasEnded pieces after → Known (joined pieces) bytes after.left → length (joined pieces) ≤ bytes_limit →
    bytes_limit < length bytes → P
ended_short pieces bytes after ended k count more =
    absurd (omega (arith, count, more, ap length (ended_all pieces bytes after ended k)))

-- ---- the lines that a session took are the first lines of all bytes

whole_open : (text more bytes : List ℕ) (lines : List (List ℕ)) → lines ≡ whole_lines text → bytes ≡ text ++ more
    → IsFirstPart lines (open_lines_of bytes)
whole_open text more bytes lines is all =
    subst (λ l. IsFirstPart l (open_lines_of bytes)) (sym is)
    (subst (λ t. IsFirstPart (whole_lines text) (open_lines_of t)) (sym all) (open_first text more))

some_open :
    (pieces lines : List (List ℕ)) (bytes : List ℕ) (after : LinesSeen)
    → TookSome pieces lines after → Known (joined pieces) bytes after.left → IsFirstPart lines (open_lines_of bytes)
some_open pieces lines bytes after (inl whole) k =
    first_longer lines (whole_lines (joined pieces)) (open_lines_of bytes) whole
    (whole_open (joined pieces) k.rest bytes (whole_lines (joined pieces)) refl k.all)
some_open pieces lines bytes after (inr opened) k =
    subst (λ t. IsFirstPart lines (open_lines_of t)) (sym (ended_all pieces bytes after opened.ended k)) opened.some

took_open :
    (ended : Result (Unit {0}) SessionFault) (pieces lines : List (List ℕ)) (doing : Activity) (bytes : List ℕ)
    (after : LinesSeen)
    → TookLinesBy ended pieces lines doing after → Known (joined pieces) bytes after.left → IsFirstPart lines
    (open_lines_of bytes)
took_open (Ok done) pieces lines doing bytes after (inl quit) k = some_open pieces lines bytes after quit.some k
took_open (Ok done) pieces lines doing bytes after (inr all) k =
    subst (λ l. IsFirstPart l (open_lines_of bytes))
    (ap open_lines_of (ended_all pieces bytes after all.ended k) ∙ sym all.all) (first_all (open_lines_of bytes))
took_open (Err fault.ReadFault) pieces lines doing bytes after took k = whole_open (joined pieces) k.rest bytes lines
    took.whole k.all
took_open (Err fault.TooLong) pieces lines doing bytes after took k =
    whole_open (take bytes_limit (joined pieces)) (drop bytes_limit (joined pieces) ++ k.rest) bytes lines took.whole
    (k.all
    ∙ ap (λ t. t ++ k.rest) (sym (take-append-drop bytes_limit (joined pieces)))
    ∙ append_assoc (take bytes_limit (joined pieces)) (drop bytes_limit (joined pieces)) k.rest)
took_open (Err fault.WriteFault) pieces lines doing bytes after took k = some_open pieces lines bytes after took k
took_open (Err fault.NoMemory) pieces lines doing bytes after took k = some_open pieces lines bytes after took k

-- ---- if there are too many, they are among the whole lines within the limit

take_more : (limit : ℕ) (text more : List ℕ) → length text ≤ limit
    → take limit (text ++ more) ≡ text ++ take (limit - length text) more
take_more limit text more within =
    let size : limit ≡ length text + (limit - length text) = omega (arith, within) in
    ap (λ n. take n (text ++ more)) size ∙ take-append-add text more (limit - length text)

whole_within : (limit : ℕ) (text more bytes : List ℕ) → length text ≤ limit → bytes ≡ text ++ more
    → IsFirstPart (whole_lines text) (whole_lines (take limit bytes))
whole_within limit text more bytes within all =
    subst (λ t. IsFirstPart (whole_lines text) (whole_lines t)) (sym (ap (take limit) all
    ∙ take_more limit text more within))
    (whole_first text (take (limit - length text) more))

some_within :
    (pieces lines : List (List ℕ)) (bytes : List ℕ) (after : LinesSeen)
    → TookSome pieces lines after → Known (joined pieces) bytes after.left → length (joined pieces) ≤ bytes_limit →
    bytes_limit < length bytes
    → IsFirstPart lines (whole_lines (take bytes_limit bytes))
some_within pieces lines bytes after (inl whole) k count more =
    first_longer lines (whole_lines (joined pieces)) (whole_lines (take bytes_limit bytes)) whole
    (whole_within bytes_limit (joined pieces) k.rest bytes count k.all)
some_within pieces lines bytes after (inr opened) k count more = ended_short pieces bytes after opened.ended k count
    more

-- the bytes within the limit, of which one more was taken
take_limit : (limit : ℕ) (text more bytes : List ℕ) → limit < length text → bytes ≡ text ++ more
    → take limit bytes ≡ take limit text
take_limit limit text more bytes over all = ap (take limit) all ∙ take-append-le limit text more (omega (arith, over))

took_within :
    (ended : Result (Unit {0}) SessionFault) (pieces lines : List (List ℕ)) (doing : Activity) (bytes : List ℕ)
    (after : LinesSeen)
    → TookLinesBy ended pieces lines doing after → Known (joined pieces) bytes after.left → CountBy ended
    (length (joined pieces)) → bytes_limit < length bytes
    → IsFirstPart lines (whole_lines (take bytes_limit bytes))
took_within (Ok done) pieces lines doing bytes after (inl quit) k count more = some_within pieces lines bytes after
    quit.some k count more
took_within (Ok done) pieces lines doing bytes after (inr all) k count more = ended_short pieces bytes after all.ended k
    count more
took_within (Err fault.ReadFault) pieces lines doing bytes after took k count more =
    subst (λ l. IsFirstPart l (whole_lines (take bytes_limit bytes))) (sym took.whole)
    (whole_within bytes_limit (joined pieces) k.rest bytes count k.all)
took_within (Err fault.TooLong) pieces lines doing bytes after took k count more =
    subst (λ l. IsFirstPart l (whole_lines (take bytes_limit bytes)))
    (ap whole_lines (take_limit bytes_limit (joined pieces) k.rest bytes count.0 k.all) ∙ sym took.whole)
    (first_all (whole_lines (take bytes_limit bytes)))
took_within (Err fault.WriteFault) pieces lines doing bytes after took k count more = some_within pieces lines bytes
    after took k count more
took_within (Err fault.NoMemory) pieces lines doing bytes after took k count more = some_within pieces lines bytes after
    took k count more

-- ---- an input that is too long

more_than : (limit : ℕ) (taken rest bytes : List ℕ) → limit < length taken → bytes ≡ taken ++ rest
    → limit < length bytes
more_than limit taken rest bytes over all = omega (arith, over, ap length all, length-append taken rest)

limit_lines :
    (pieces lines : List (List ℕ)) (doing : Activity) (bytes : List ℕ) (after : LinesSeen)
    → TookWhole (take bytes_limit (joined pieces)) lines doing → Known (joined pieces) bytes after.left → bytes_limit <
    length (joined pieces)
    → lines ≡ whole_lines (take bytes_limit bytes)
limit_lines pieces lines doing bytes after took k over =
    took.whole ∙ ap whole_lines (sym (take_limit bytes_limit (joined pieces) k.rest bytes over k.all))

-- a session says so only of such bytes
took_too_long :
    (pieces lines : List (List ℕ)) (doing : Activity) (bytes : List ℕ) (after : LinesSeen)
    → TookLinesBy (Err fault.TooLong) pieces lines doing after → Known (joined pieces) bytes after.left → CountBy
    (Err fault.TooLong) (length (joined pieces))
    → IsTooLong bytes
took_too_long pieces lines doing bytes after took k count = record {
  more = more_than bytes_limit (joined pieces) k.rest bytes count.0 k.all;
  none = subst (All IsNotQuit) (limit_lines pieces lines doing bytes after took k count.0) took.none;
}

quit_among : {P : Type 0} (before rest : List (List ℕ)) (last : List ℕ) → session_line last ≡ Quit
    → All IsNotQuit ((before ++ last ∷ []) ++ rest) → P
quit_among [] rest last quits none = absurd (All-head IsNotQuit last rest none quits)
quit_among (line ∷ before) rest last quits none =
    quit_among before rest last quits (All-tail IsNotQuit line ((before ++ last ∷ []) ++ rest) none)

-- and of such bytes each session that ends
took_short :
    {P : Type 0} (pieces lines : List (List ℕ)) (doing : Activity) (bytes : List ℕ) (after : LinesSeen)
    → TookLinesBy (Ok tt) pieces lines doing after → Known (joined pieces) bytes after.left → CountBy (Ok tt)
    (length (joined pieces)) → IsTooLong bytes → P
took_short pieces lines doing bytes after (inl quit) k count long =
    let first = some_within pieces lines bytes after quit.some k count long.more in
    quit_among quit.quit.before first.rest quit.quit.last quit.quit.quits
    (subst (λ l. All IsNotQuit (l ++ first.rest)) quit.quit.are (subst (All IsNotQuit) first.is long.none))
took_short pieces lines doing bytes after (inr all) k count long = ended_short pieces bytes after all.ended k count
    long.more

-- ---- two sessions over the same bytes

took_further :
    (ended : Result (Unit {0}) SessionFault) (pieces lines taken : List (List ℕ)) (doing : Activity) (bytes : List ℕ)
    (after : LinesSeen)
    → IsEnd (ended_by ended) → TookLinesBy ended pieces taken doing after → Known (joined pieces) bytes after.left → CountBy
    ended (length (joined pieces))
    → IsFirstPart lines (open_lines_of bytes) → (bytes_limit < length bytes → IsFirstPart lines
    (whole_lines (take bytes_limit bytes)))
    → IsFurther doing lines taken
took_further (Ok done) pieces lines taken doing bytes after is_end (inl quit) k count opened within = inl quit.over
took_further (Ok done) pieces lines taken doing bytes after is_end (inr all) k count opened within = inr (
  all.waits,
  subst (IsFirstPart lines) (ap open_lines_of (ended_all pieces bytes after all.ended k) ∙ sym all.all) opened,
)
took_further (Err fault.TooLong) pieces lines taken doing bytes after is_end took k count opened within = inr (
  took.waits,
  subst (IsFirstPart lines) (sym (limit_lines pieces taken doing bytes after took k count.0))
      (within (more_than bytes_limit (joined pieces) k.rest bytes count.0 k.all)),
)
took_further (Err fault.ReadFault) pieces lines taken doing bytes after is_end took k count opened within = absurd
    is_end
took_further (Err fault.WriteFault) pieces lines taken doing bytes after is_end took k count opened within = absurd
    is_end
took_further (Err fault.NoMemory) pieces lines taken doing bytes after is_end took k count opened within = absurd is_end

-- What the first writes is a prefix of what the second writes, if that ends.
session_first :
    {M : Type 0} (o : MachineRelations M) (Plain : Turn → Type 0) (Alike : M → M → Type 0) → StayAlike o Plain Alike
    → (ended ended' : Result (Unit {0}) SessionFault) (m n m1 m2 : M) (before after before' after' : LinesSeen)
    (lines others : List (List ℕ)) (bytes : List ℕ)
    → Alike m n → IsEnd (ended_by ended') → before.left ≡ Some bytes → before'.left ≡ Some bytes
    → IsSession o ended m m1 before after lines → (second : IsSession o ended' n m2 before' after' others)
    → EachTurn Plain second.events
    → IsFirstPart lines others
session_first o Plain Alike stay ended ended' m n m1 m2 before after before' after' lines others bytes alike is_end left
    left' first second plain =
    let k = known (joined first.pieces) bytes before.left after.left left first.came in
    let k' = known (joined second.pieces) bytes before'.left after'.left left' second.came in
    let taken = lines_in first.events in
    let others_taken = lines_in second.events in
    let opened = took_open ended first.pieces taken first.stands.doing bytes after first.took k in
    let opened' = took_open ended' second.pieces others_taken second.stands.doing bytes after' second.took k' in
    let further = took_further ended' second.pieces taken others_taken second.stands.doing bytes after' is_end
    second.took k' second.count opened
    (λ more. took_within ended first.pieces taken first.stands.doing bytes after first.took k first.count more) in
    subst (λ l. IsFirstPart l others) (sym first.said)
    (subst (IsFirstPart (texts_of o (standing initial_session_state Waiting) first.events)) (sym second.said)
    (first_texts o Plain Alike stay initial_session_state Waiting m n first.events second.events first.stands m1 second.stands m2
    alike plain first.follow second.follow
    (first_agree taken others_taken (open_lines_of bytes) opened opened') further))

-- an end says whether the input is too long
abbrev EndSays : Result (Unit {0}) SessionFault → List ℕ → Type 0
EndSays (Ok done) bytes = IsTooLong bytes → ⊥
EndSays (Err fault.ReadFault) bytes = ⊥
EndSays (Err fault.WriteFault) bytes = ⊥
EndSays (Err fault.TooLong) bytes = IsTooLong bytes
EndSays (Err fault.NoMemory) bytes = ⊥

end_says :
    {M : Type 0} (o : MachineRelations M) (ended : Result (Unit {0}) SessionFault) (m m1 : M) (before after : LinesSeen)
    (lines : List (List ℕ)) (bytes : List ℕ)
    → IsEnd (ended_by ended) → before.left ≡ Some bytes → IsSession o ended m m1 before after lines → EndSays ended
    bytes
end_says o (Ok done) m m1 before after lines bytes is_end left s =
    λ long. took_short s.pieces (lines_in s.events) s.stands.doing bytes after s.took
    (known (joined s.pieces) bytes before.left after.left left s.came) s.count long
end_says o (Err fault.TooLong) m m1 before after lines bytes is_end left s =
    took_too_long s.pieces (lines_in s.events) s.stands.doing bytes after s.took
    (known (joined s.pieces) bytes before.left after.left left s.came) s.count
end_says o (Err fault.ReadFault) m m1 before after lines bytes is_end left s = absurd is_end
end_says o (Err fault.WriteFault) m m1 before after lines bytes is_end left s = absurd is_end
end_says o (Err fault.NoMemory) m m1 before after lines bytes is_end left s = absurd is_end

one_end :
    (ended ended' : Result (Unit {0}) SessionFault) (bytes : List ℕ) → EndSays ended bytes → EndSays ended' bytes
    → ended_by ended ≡ ended_by ended'
one_end (Ok done) (Ok done') bytes says says' = refl
one_end (Ok done) (Err fault.TooLong) bytes says says' = absurd (says says')
one_end (Ok done) (Err fault.ReadFault) bytes says says' = absurd says'
one_end (Ok done) (Err fault.WriteFault) bytes says says' = absurd says'
one_end (Ok done) (Err fault.NoMemory) bytes says says' = absurd says'
one_end (Err fault.TooLong) (Ok done') bytes says says' = absurd (says' says)
one_end (Err fault.TooLong) (Err fault.TooLong) bytes says says' = refl
one_end (Err fault.TooLong) (Err fault.ReadFault) bytes says says' = absurd says'
one_end (Err fault.TooLong) (Err fault.WriteFault) bytes says says' = absurd says'
one_end (Err fault.TooLong) (Err fault.NoMemory) bytes says says' = absurd says'
one_end (Err fault.ReadFault) ended' bytes says says' = absurd says
one_end (Err fault.WriteFault) ended' bytes says says' = absurd says
one_end (Err fault.NoMemory) ended' bytes says says' = absurd says

short_end : (ended : Result (Unit {0}) SessionFault) (bytes : List ℕ) → (IsTooLong bytes → ⊥) → EndSays ended bytes
    → ended_by ended ≡ Ok tt
short_end (Ok done) bytes short says = refl
short_end (Err fault.TooLong) bytes short says = absurd (short says)
short_end (Err fault.ReadFault) bytes short says = absurd says
short_end (Err fault.WriteFault) bytes short says = absurd says
short_end (Err fault.NoMemory) bytes short says = absurd says

-- ---- calls

-- A session that ends by itself, and whose input is not too long, ends with Ok.
pub session_done :
    {M : Type 0} (o : MachineRelations M) (m : M) (bytes : List ℕ) (result : Result (Unit {0}) Status) (old new : Seen)
    → old.left ≡ Some bytes → (IsTooLong bytes → ⊥) → Performs (session o m) result old new → IsEnd result → result ≡ Ok
    tt
session_done o m bytes result old new left short performs is_end =
    let held = session_held o m result old new performs in
    held.result_is
    ∙ short_end held.ended bytes short
    (end_says o held.ended m held.later _ _ held.lines bytes (subst IsEnd held.result_is is_end) left held.session)

end_put : (ended : Result (Unit {0}) SessionFault) → IsEnd (ended_by ended) → last_put_of ended ≡ Done
end_put (Ok done) is_end = refl
end_put (Err fault.TooLong) is_end = refl
end_put (Err fault.ReadFault) is_end = absurd is_end
end_put (Err fault.WriteFault) is_end = absurd is_end
end_put (Err fault.NoMemory) is_end = absurd is_end

-- all was put
all_put :
    (ended : Result (Unit {0}) SessionFault) (events : List Event) (lines : List (List ℕ))
    → IsEnd (ended_by ended) → Puts (last_put_of ended) [] events lines → lines ≡ pieces_of events
all_put ended events lines is_end puts =
    puts.all ∙ ap (λ l. pieces_of events ++ l) (puts.whole (end_put ended is_end)) ∙ append-nil (pieces_of events)

some_put :
    (ended : Result (Unit {0}) SessionFault) (events : List Event) (lines : List (List ℕ))
    → Puts (last_put_of ended) [] events lines → IsFirstPart (pieces_of events) lines
some_put ended events lines puts = record { rest = puts.left; is = puts.all }

-- What a call puts is a prefix of what a call puts that ends.
pieces_first :
    {M : Type 0} (o : MachineRelations M) (m : M) (bytes : List ℕ) (result end : Result (Unit {0}) Status)
    (old new old' new' : Seen) (events others : List Event)
    → IsDeterministic o → IsEnd end → old.left ≡ Some bytes → old'.left ≡ Some bytes
    → Held o m result old new events → Held o m end old' new' others
    → IsFirstPart (pieces_of events) (pieces_of others)
pieces_first o m bytes result end old new old' new' events others one is_end left left' first second =
    let ends : IsEnd (ended_by second.ended) = subst IsEnd second.result_is is_end in
    first_longer (pieces_of events) first.lines (pieces_of others) (some_put first.ended events first.lines first.puts)
    (subst (IsFirstPart first.lines) (all_put second.ended others second.lines ends second.puts)
    (session_first o AnyTurn (λ k l. k ≡ l) (deterministic_alike o one) first.ended second.ended m m first.later
    second.later _ _ _ _ first.lines second.lines bytes
    refl ends left left' first.session second.session (any_turn second.session.events)))

pub session_one_text :
    {M : Type 0} (o : MachineRelations M) (m : M) (bytes : List ℕ) (result end : Result (Unit {0}) Status)
    (old new old' new' : Seen)
    → IsDeterministic o → IsEnd end → old.left ≡ Some bytes → old'.left ≡ Some bytes
    → (one : Performs (session o m) result old new) (other : Performs (session o m) end old' new')
    → OneText (pieces_of one.events) (pieces_of other.events) result end
session_one_text o m bytes result end old new old' new' one is_end left left' call other =
    let held = session_held o m result old new call in
    let held' = session_held o m end old' new' other in
    let first = pieces_first o m bytes result end old new old' new' call.events other.events one is_end left left' held
    held' in
    record {
      left = first.rest;
      is = first.is;
      ended = λ is_end'. (
        first_both (pieces_of call.events) (pieces_of other.events) first
            (pieces_first o m bytes end result old' new' old new other.events call.events one is_end' left' left held'
            held),
        held.result_is
            ∙ one_end held.ended held'.ended bytes
            (end_says o held.ended m held.later _ _ held.lines bytes (subst IsEnd held.result_is is_end') left
            held.session)
            (end_says o held'.ended m held'.later _ _ held'.lines bytes (subst IsEnd held'.result_is is_end) left'
            held'.session)
            ∙ sym held'.result_is,
      );
    }

-- What a call puts is a prefix of what another session writes that ends, whose turns are plain.
pub session_plain_text :
    {M : Type 0} (o : MachineRelations M) (Plain : Turn → Type 0) (Alike : M → M → Type 0) → StayAlike o Plain Alike
    → (m n : M) (bytes : List ℕ) (result end : Result (Unit {0}) Status) (old new old' new' : Seen)
    → Alike m n → IsEnd end → old.left ≡ Some bytes → old'.left ≡ Some bytes
    → (one : Performs (session o m) result old new) (other : IsHeld o n end old' new')
    → EachTurn Plain other.says.session.events
    → IsFirstPart (pieces_of one.events) other.says.lines
session_plain_text o Plain Alike stay m n bytes result end old new old' new' alike is_end left left' one other plain =
    let held = session_held o m result old new one in
    first_longer (pieces_of one.events) held.lines other.says.lines (some_put held.ended one.events held.lines
    held.puts)
    (session_first o Plain Alike stay held.ended other.ended m n held.later other.later _ _ _ _ held.lines
    other.says.lines bytes
    alike (subst IsEnd other.result_is is_end) left left' held.session other.says.session plain)

-- ---- the law

pub is_held :
    {M : Type 0} (o : MachineRelations M) (m : M) (result : Result (Unit {0}) Status) (old new : Seen)
    → Performs (session o m) result old new → IsHeld o m result old new
is_held o m result old new performs =
    let held = session_held o m result old new performs in
    let unread = session_unread o m result old new performs in
    record {
      ended = held.ended;
      result_is = held.result_is;
      later = held.later;
      says = record { lines = held.lines; session = held.session; wrote = held.wrote };
      reads = unread.reads;
      read_faults = unread.faults;
    }

pub session_law : {M : Type 0} (o : MachineRelations M) → SessionLaw o
session_law o = record {
  held = λ m result old new performs. is_held o m result old new performs;
  one_text = λ one m bytes result end old new old' new' is_end left left' call other.
      session_one_text o m bytes result end old new old' new' one is_end left left' call other;
}

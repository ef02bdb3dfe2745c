-- A session over a world, piece by piece: the events so far lead to the present machine, and what they say was put.
use Rattle.std.proofs.Common.{◌≡◌, ◌+◌, ◌-◌, ℕ, List, [], ◌∷◌, ◌++◌, length, take, Result, Ok, Err, refl, sym, ap, subst, ◌∙◌, ◌==◌, false, arith}
use Rattle.std.proofs.lemmas.List.Elements.{All-nil}
use Rattle.std.proofs.lemmas.List.Folds.{concat-append}
use Rattle.std.proofs.lemmas.List.{append-nil}
use Rattle.m36_text.specs.Lines.{open_last_line}
use Rattle.m36_outside.specs.Counts.{Rose}
use Rattle.m36_outside.specs.Passing.{joined}
use Rattle.m36_outside.specs.Putting.{PutsPieces}
use Rattle.m36_outside.specs.SinkState.{SinkState}
use Rattle.m36_outside.specs.Written.{appended, Grew, GrewWithin}
use Rattle.m36_outside.specs.declared.sink.Put.{Put}
use Rattle.m36_outside.specs.declared.sink.Put.TheVariants.{Done, Failed}
use Rattle.m36_outside.proofs.Grown.{grew_by_nothing, grew_on, grew_more}
use Rattle.m36_outside.proofs.LinesTaken.{takes_no_lines, takes_lines_on, takes_lines_more}
use Rattle.m36_world.specs.Happened.{IsInput, IsInputFailed, IsOutput}
use Rattle.m36_world.specs.Follow.{Follow, outputs}
use Rattle.m36_world.specs.Seen.{Seen}
use Rattle.m36_program.specs.Gathered.{Gathers, Loses}
use Rattle.m36_program.specs.MayHappen.{output_of}
use Rattle.m36_program.proofs.PieceLaws.{puts_longer}
use Rattle.m36_debug.specs.declared.fault.SessionFault.{SessionFault}
use Rattle.m36_debug.specs.declared.fault.SessionFault.TheVariants as fault
use Rattle.m36_debug.specs.declared.machine_relations.LineResult.{LineResult}
use Rattle.m36_debug.specs.declared.machine_relations.LineResult.TheVariants as ends
use Rattle.m36_debug.specs.Parts.{LineContract}
use Rattle.m36_debug.specs.PieceContract.{AnsweredAll, AnsweredQuit, AnsweredSome, AnsweredCut}
use Rattle.m36_debug.specs.Putting.{pending}
use Rattle.m36_debug.specs.Session.{MachineRelations, Waiting, Starved, standing, texts_of}
use Rattle.m36_debug.specs.SessionContract.{LinesSeen, IsSession, SessionContractInWorld, session_result, last_put_of, bytes_limit}
use Rattle.m36_debug.specs.SessionState.{SessionStateFields, initial_session_state}
use Rattle.m36_debug.specs.Taking.{IsPieceTaken}
use Rattle.m36_debug.proofs.Replied.{input_by, outputs_keep}
use Rattle.m36_debug.proofs.SessionBridge.{got_piece, got_end, got_nothing}
use Rattle.m36_debug.proofs.SessionLaws.{GotPiece, Going, Unwritten, Starving, going_start, going_unread, going_too_long, going_end, going_last_quit, going_last_breaks, going_on, going_quit, going_breaks}
use Rattle.m36_debug.proofs.SessionSteps.{taken_length}

-- ---- what is put of an output

-- no line was put
put_nothing : (now : SinkState) → PutsPieces Done [] now now
put_nothing now =
    record { text = grew_by_nothing now.written; pieces = takes_no_lines now.taken; faults = refl }

-- some lines, and then others, or a part of them
put_then :
    (how : Put) (old now new : SinkState) (first second : List (List ℕ))
    → PutsPieces Done first old now → PutsPieces how second now new → PutsPieces how (first ++ second) old new
put_then Done old now new first second one two = record {
  text = subst (Grew old.written new.written) (sym (concat-append first second)) (grew_on old.written now.written new.written (joined first) (joined second) one.text two.text);
  pieces = takes_lines_on old.taken now.taken new.taken first second one.pieces two.pieces;
  faults = two.faults ∙ one.faults;
}
put_then Failed old now new first second one two = record {
  text = subst (GrewWithin old.written new.written) (sym (concat-append first second)) (grew_more old.written now.written new.written (joined first) (joined second) one.text two.text);
  pieces = takes_lines_more old.taken now.taken new.taken first second one.pieces two.pieces;
  faults = subst (λ n. Rose n new.faults) one.faults two.faults;
}

-- pieces, each whole
outputs_put : (pieces : List (List ℕ)) (old new : Seen) → Follow (outputs pieces) old new → PutsPieces Done pieces (output_of old) (output_of new)
unfolding Follow
outputs_put [] old new same = subst (λ s. PutsPieces Done [] (output_of old) s) (sym (ap output_of same)) (put_nothing (output_of old))
outputs_put (piece ∷ pieces) old new follow =
    let did : IsOutput piece old follow.between = follow.begins in
    put_then Done (output_of old) (output_of follow.between) (output_of new) (piece ∷ []) pieces
    (record {
      text = ap (λ s. s.written) did.rest ∙ ap (λ l. appended l old.written) (sym (append-nil piece));
      pieces = ap (λ s. s.outputs) did.rest;
      faults = ap (λ s. s.output_faults) did.rest;
    })
    (outputs_put pieces follow.between new follow.goes_on)

-- These lines were put, or a prefix of them, and no input was asked for.
record WasPut (how : Put) (lines : List (List ℕ)) (old new : Seen) : Type 0 where
  input : input_by new ≡ input_by old
  puts : PutsPieces how lines (output_of old) (output_of new)

all_put : (lines : List (List ℕ)) (old new : Seen) → Gathers [] [] lines old new → WasPut Done lines old new
all_put lines old new all = record {
  input = outputs_keep all.handed old new all.follow;
  puts = subst (λ l. PutsPieces Done l (output_of old) (output_of new)) (sym (all.is ∙ append-nil all.handed)) (outputs_put all.handed old new all.follow);
}

some_put : (lines : List (List ℕ)) (old new : Seen) → Loses ([] ++ lines) old new → WasPut Failed lines old new
some_put lines old new some = record {
  input = ap input_by some.fails.rest ∙ outputs_keep some.handed old some.between some.follow;
  puts =
      subst (λ l. PutsPieces Failed l (output_of old) (output_of new)) (sym some.is)
      (puts_longer (some.handed ++ some.failed) some.left (output_of old) (output_of new)
      (put_then Failed (output_of old) (output_of some.between) (output_of new) some.handed some.failed
      (outputs_put some.handed old some.between some.follow)
      (record { text = some.fails.grew; pieces = some.fails.took; faults = some.fails.cause })));
}

-- ---- a session so far

-- All whole lines so far were answered, and all that they say was put.
pub record HeldSoFar {M : Type 0} (o : MachineRelations M) (m m' : M) (old now : Seen) (left : ℕ) (begun : List ℕ) (sitting : SessionStateFields) : Type 0 where
  pub written : List (List ℕ)
  pub going : Going o m m' (input_by old) (input_by now) left begun sitting written
  pub puts : PutsPieces Done written (output_of old) (output_of now)

held_nothing : {M : Type 0} (o : MachineRelations M) (m : M) (now : Seen) → HeldSoFar o m m now now bytes_limit [] initial_session_state
held_nothing o m now = record {
  written = [];
  going = going_start o m (input_by now) (All-nil (λ b. (b == 10) ≡ false));
  puts = put_nothing (output_of now);
}

pub held_start :
    {M : Type 0} (o : MachineRelations M) (left : ℕ) (begun : List ℕ) (s : SessionStateFields) (m : M) (now : Seen)
    → left ≡ bytes_limit → begun ≡ [] → s ≡ initial_session_state → HeldSoFar o m m now now left begun s
held_start o left begun s m now all none new =
    subst (λ n. HeldSoFar o m m now now n begun s) (sym all)
    (subst (λ b. HeldSoFar o m m now now bytes_limit b s) (sym none)
    (subst (λ (t : SessionStateFields). HeldSoFar o m m now now bytes_limit [] t) (sym new) (held_nothing o m now)))

-- What was said last was put, and the session is over.
held_all :
    {M : Type 0} (o : MachineRelations M) (result : Result (Unit {0}) SessionFault) (m m' : M) (written more : List (List ℕ)) (old now mid new : Seen)
    → PutsPieces Done written (output_of old) (output_of now) → output_of mid ≡ output_of now → WasPut (last_put_of result) more mid new
    → IsSession o result m m' (input_by old) (input_by mid) (written ++ more)
    → SessionContractInWorld o result m m' old new
held_all o result m m' written more old now mid new puts same last session = record {
  lines = written ++ more;
  session = subst (λ (i : LinesSeen). IsSession o result m m' (input_by old) i (written ++ more)) (sym last.input) session;
  wrote = put_then (last_put_of result) (output_of old) (output_of now) (output_of new) written more puts
      (subst (λ s. PutsPieces (last_put_of result) more s (output_of new)) same last.puts);
}

-- ---- nothing more is answered

pub held_unread :
    {M : Type 0} (o : MachineRelations M) (m m' : M) (left : ℕ) (begun : List ℕ) (sitting : SessionStateFields) (old now new : Seen)
    → HeldSoFar o m m' old now left begun sitting → IsInputFailed now new
    → SessionContractInWorld o (Err fault.ReadFault) m m' old new
held_unread o m m' left begun sitting old now new held did = record {
  lines = held.written;
  session = going_unread o m m' (input_by old) (input_by now) (input_by new) left begun sitting held.written held.going (got_nothing now new did);
  wrote = subst (λ s. PutsPieces Done held.written (output_of old) s) (sym (ap output_of did.rest)) held.puts;
}

pub held_too_long :
    {M : Type 0} (o : MachineRelations M) (m m' : M) (left count : ℕ) (begun buffer : List ℕ) (sitting : SessionStateFields) (old now new : Seen)
    → HeldSoFar o m m' old now left begun sitting → left ≡ 0 → IsPieceTaken count 1 buffer now new
    → SessionContractInWorld o (Err fault.TooLong) m m' old new
held_too_long o m m' left count begun buffer sitting old now new held none taken =
    let piece : List ℕ = take count buffer in
    let size : length piece ≡ count = taken_length count 1 buffer now new taken in
    record {
      lines = held.written;
      session = going_too_long o m m' (input_by old) (input_by now) (input_by new) begun piece sitting held.written
          (subst (λ n. Going o m m' (input_by old) (input_by now) n begun sitting held.written) none held.going)
          (got_piece piece 1 now new taken.input (omega (arith, size, taken.some)) (omega (arith, size, taken.within)));
      wrote = subst (λ s. PutsPieces Done held.written (output_of old) s) (sym (ap output_of taken.input.rest)) held.puts;
    }

-- ---- the input has ended

pub held_end :
    {M : Type 0} (o : MachineRelations M) (end : LineResult) (m m1 m2 : M) (left : ℕ) (begun : List ℕ) (s sitting : SessionStateFields) (old now mid new : Seen)
    → HeldSoFar o m m1 old now left begun s → IsInput [] now mid
    → LineContract o end (standing s Waiting) m1 (open_last_line begun) sitting m2 (pending [] mid) (pending [] new)
    → SessionContractInWorld o (session_result end) m m2 old new
held_end o ends.Line m m1 m2 left begun s sitting old now mid new held did said =
    let more = texts_of o (standing s Waiting) said.events in
    held_all o (Ok tt) m m2 held.written more old now mid new held.puts (ap output_of did.rest) (all_put more mid new said.wrote)
    (going_end o m m1 m2 (input_by old) (input_by now) (input_by mid) left begun s sitting held.written more held.going (got_end now mid did)
    (record { events = said.events; follow = said.follow; took = said.took; said = refl }))
held_end o ends.Quit m m1 m2 left begun s sitting old now mid new held did said =
    let more = texts_of o (standing s Waiting) said.events in
    held_all o (Ok tt) m m2 held.written more old now mid new held.puts (ap output_of did.rest) (all_put more mid new said.wrote)
    (going_last_quit o m m1 (input_by old) (input_by now) (input_by mid) left begun s held.written more held.going (got_end now mid did)
    (record {
      sitting = sitting;
      machine = m2;
      happens = record { events = said.events; follow = said.follow; took = said.took; said = refl };
    }))
held_end o ends.Starved m m1 m2 left begun s sitting old now mid new held did said =
    let more = texts_of o (standing s Waiting) said.events in
    held_all o (Err fault.NoMemory) m m2 held.written more old now mid new held.puts (ap output_of did.rest) (all_put more mid new said.wrote)
    (going_last_breaks Starving o m m1 (input_by old) (input_by now) (input_by mid) left begun s held.written more held.going (got_end now mid did)
    (record {
      stands = standing sitting Starved;
      machine = m2;
      happens = record { events = said.events; follow = said.follow; took = said.took; said = refl };
    }))
held_end o ends.Cut m m1 m2 left begun s sitting old now mid new held did said =
    let more = texts_of o (standing s Waiting) said.part.events in
    held_all o (Err fault.WriteFault) m m2 held.written more old now mid new held.puts (ap output_of did.rest) (some_put more mid new said.part.wrote)
    (going_last_breaks Unwritten o m m1 (input_by old) (input_by now) (input_by mid) left begun s held.written more held.going (got_end now mid did)
    (record {
      stands = said.stands;
      machine = m2;
      happens = record { events = said.part.events; follow = said.part.follow; took = said.part.took; said = refl };
    }))

-- ---- a piece was taken

-- The piece is the next one, and it has `count` bytes.
record NextPiece {M : Type 0} (o : MachineRelations M) (m m1 : M) (left count : ℕ) (begun buffer : List ℕ) (s : SessionStateFields) (written : List (List ℕ)) (old now mid : Seen)
    : Type 0 where
  going : Going o m m1 (input_by old) (input_by now) ((left - count) + length (take count buffer)) begun s written
  got : GotPiece (take count buffer) ((left - count) + length (take count buffer)) (input_by now) (input_by mid)
  same : output_of mid ≡ output_of now

next_piece :
    {M : Type 0} (o : MachineRelations M) (m m1 : M) (left count : ℕ) (begun buffer : List ℕ) (s : SessionStateFields) (written : List (List ℕ)) (old now mid : Seen)
    → Going o m m1 (input_by old) (input_by now) left begun s written → IsPieceTaken count left buffer now mid
    → NextPiece o m m1 left count begun buffer s written old now mid
next_piece o m m1 left count begun buffer s written old now mid going taken =
    let piece : List ℕ = take count buffer in
    let size : length piece ≡ count = taken_length count left buffer now mid taken in
    let all : left ≡ (left - count) + length piece = omega (arith, size, taken.within) in
    record {
      going = subst (λ n. Going o m m1 (input_by old) (input_by now) n begun s written) all going;
      got = got_piece piece ((left - count) + length piece) now mid taken.input (omega (arith, size, taken.some)) (omega arith);
      same = ap output_of taken.input.rest;
    }

pub held_on :
    {M : Type 0} (o : MachineRelations M) (m m1 m2 : M) (left count : ℕ) (begun kept buffer : List ℕ) (s sitting : SessionStateFields) (old now mid new : Seen)
    → HeldSoFar o m m1 old now left begun s → IsPieceTaken count left buffer now mid
    → AnsweredAll o (standing s Waiting) m1 (begun ++ take count buffer) kept sitting m2 (pending [] mid) (pending [] new)
    → HeldSoFar o m m2 old new (left - count) kept sitting
held_on o m m1 m2 left count begun kept buffer s sitting old now mid new held taken said =
    let more = texts_of o (standing s Waiting) said.part.events in
    let next = next_piece o m m1 left count begun buffer s held.written old now mid held.going taken in
    let last = all_put more mid new said.part.wrote in
    record {
      written = held.written ++ more;
      going = subst (λ (i : LinesSeen). Going o m m2 (input_by old) i (left - count) kept sitting (held.written ++ more)) (sym last.input)
          (going_on o m m1 m2 (input_by old) (input_by now) (input_by mid) (left - count) begun kept (take count buffer) s sitting held.written more next.going next.got
          (record {
            lines = said.lines;
            is = said.is;
            unbroken = said.unbroken;
            happens = record { events = said.part.events; follow = said.part.follow; took = said.part.took; said = refl };
          }));
      puts = put_then Done (output_of old) (output_of now) (output_of new) held.written more held.puts
          (subst (λ p. PutsPieces Done more p (output_of new)) next.same last.puts);
    }

pub held_quit :
    {M : Type 0} (o : MachineRelations M) (m m1 m2 : M) (left count : ℕ) (begun buffer : List ℕ) (s sitting : SessionStateFields) (old now mid new : Seen)
    → HeldSoFar o m m1 old now left begun s → IsPieceTaken count left buffer now mid
    → AnsweredQuit o (standing s Waiting) m1 (begun ++ take count buffer) sitting m2 (pending [] mid) (pending [] new)
    → SessionContractInWorld o (Ok tt) m m2 old new
held_quit o m m1 m2 left count begun buffer s sitting old now mid new held taken said =
    let more = texts_of o (standing s Waiting) said.part.events in
    let next = next_piece o m m1 left count begun buffer s held.written old now mid held.going taken in
    held_all o (Ok tt) m m2 held.written more old now mid new held.puts next.same (all_put more mid new said.part.wrote)
    (going_quit o m m1 (input_by old) (input_by now) (input_by mid) (left - count) begun (take count buffer) s held.written more next.going next.got
    (record {
      lines = said.lines;
      rest = said.rest;
      is = said.is;
      sitting = sitting;
      machine = m2;
      happens = record { events = said.part.events; follow = said.part.follow; took = said.part.took; said = refl };
    }))

pub held_starved :
    {M : Type 0} (o : MachineRelations M) (m m1 m2 : M) (left count : ℕ) (begun buffer : List ℕ) (s : SessionStateFields) (old now mid new : Seen)
    → HeldSoFar o m m1 old now left begun s → IsPieceTaken count left buffer now mid
    → AnsweredSome o (standing s Waiting) m1 (begun ++ take count buffer) m2 (pending [] mid) (pending [] new)
    → SessionContractInWorld o (Err fault.NoMemory) m m2 old new
held_starved o m m1 m2 left count begun buffer s old now mid new held taken said =
    let more = texts_of o (standing s Waiting) said.part.events in
    let next = next_piece o m m1 left count begun buffer s held.written old now mid held.going taken in
    held_all o (Err fault.NoMemory) m m2 held.written more old now mid new held.puts next.same (all_put more mid new said.part.wrote)
    (going_breaks Starving o m m1 (input_by old) (input_by now) (input_by mid) (left - count) begun (take count buffer) s held.written more next.going next.got
    (record {
      lines = said.lines;
      rest = said.rest;
      is = said.is;
      stands = said.stands;
      machine = m2;
      happens = record { events = said.part.events; follow = said.part.follow; took = said.part.took; said = refl };
    }))

pub held_cut :
    {M : Type 0} (o : MachineRelations M) (m m1 m2 : M) (left count : ℕ) (begun buffer : List ℕ) (s : SessionStateFields) (old now mid new : Seen)
    → HeldSoFar o m m1 old now left begun s → IsPieceTaken count left buffer now mid
    → AnsweredCut o (standing s Waiting) m1 (begun ++ take count buffer) m2 (pending [] mid) (pending [] new)
    → SessionContractInWorld o (Err fault.WriteFault) m m2 old new
held_cut o m m1 m2 left count begun buffer s old now mid new held taken said =
    let part = said.part.part in
    let more = texts_of o (standing s Waiting) part.events in
    let next = next_piece o m m1 left count begun buffer s held.written old now mid held.going taken in
    held_all o (Err fault.WriteFault) m m2 held.written more old now mid new held.puts next.same (some_put more mid new part.wrote)
    (going_breaks Unwritten o m m1 (input_by old) (input_by now) (input_by mid) (left - count) begun (take count buffer) s held.written more next.going next.got
    (record {
      lines = said.lines;
      rest = said.rest;
      is = said.is;
      stands = said.part.stands;
      machine = m2;
      happens = record { events = part.events; follow = part.follow; took = part.took; said = refl };
    }))

-- Plain turns of a system, and a call of the program of its run: what both write agrees; and if the turns are a whole
-- run, the call has its text.
use Rattle.std.proofs.Common.{◌≡◌, ℕ, ◌+◌, List, [], ◌∷◌, ◌++◌, Option, Some, None, Result, refl, sym, ap, subst, ◌∙◌}
use Rattle.std.proofs.Common.{inl, inr, arith, append_assoc, add-zero}
use Rattle.std.proofs.lemmas.List.{append-nil}
use Rattle.m36_world.specs.declared.event.Event.{Event}
use Rattle.m36_model.specs.StoreLaw.{Each}
use Rattle.m36_step.specs.declared.turns.Turn.{Turn}
use Rattle.m36_super.specs.Library.{Library}
use Rattle.m36_super.specs.BootedRun.{Booted}
use Rattle.m36_super.specs.SuperFields.{SuperFields, booted_of}
use Rattle.m36_super.specs.TurnLaws.{IsPlainTurn}
use Rattle.m36_super.specs.BootResult.{IsBooted}
use Rattle.m36_status.specs.declared.status.Status.{Status}
use Rattle.m36_program.specs.Alike.{IsEnd, OneText}
use Rattle.m36_program.specs.Early.{result_of_status}
use Rattle.m36_program.specs.MayHappen.{pieces_of}
use Rattle.cmd_folder.specs.declared.command.RunOutput.{RunOutput}
use Rattle.cmd_folder.specs.declared.finish.Finish.{Finish}
use Rattle.cmd_folder.specs.RunText.{turn_step_count, turns_step_count, pieces_of_turns, end_pieces, run_pieces, finish_status}
use Rattle.cmd_folder.specs.RunText as text
use Rattle.cmd_folder.specs.Runs.{Goes, Finishes}
use Rattle.cmd_folder.proofs.OneRun.{AreSame, GoesOn, Meet, ends_there, finish_one}
use Rattle.cmd_folder.proofs.OneRunLaws.{meet_here}
use Rattle.cmd_folder.specs.FolderLaw.{IsPrefix, OneIsPrefix}
use Rattle.cmd_folder.specs.IsBootedRun.{FinishesAs, StopsAs, IsBootedRun}
use Rattle.cmd_folder.specs.RunProgram.{RunContext}
use Rattle.cmd_folder.proofs.FolderEnds.{unput_ends, starved_ends}

-- ---- prefixes

agree_more : (piece : List ℕ) (one other : List (List ℕ)) → OneIsPrefix one other → OneIsPrefix (piece ∷ one) (piece ∷ other)
agree_more piece one other (inl first) = inl (record { left = first.left; is = ap (λ l. piece ∷ l) first.is })
agree_more piece one other (inr first) = inr (record { left = first.left; is = ap (λ l. piece ∷ l) first.is })

-- Two prefixes of one list agree.
prefixes_agree : (a b c d : List (List ℕ)) → a ++ b ≡ c ++ d → OneIsPrefix a c
prefixes_agree [] b c d is = inl (record { left = c; is = refl })
prefixes_agree (x ∷ a) b [] d is = inr (record { left = x ∷ a; is = refl })
prefixes_agree (x ∷ a) b (y ∷ c) d is =
    let first : x ≡ y = cc in
    let rest : a ++ b ≡ c ++ d = cc in
    subst (λ z. OneIsPrefix (x ∷ a) (z ∷ c)) first (agree_more x a c (prefixes_agree a b c d rest))

-- ---- what more turns write

pieces_both :
    (to : RunOutput) (taken : ℕ) (turns more : List Turn)
    → pieces_of_turns to taken (turns ++ more) ≡ pieces_of_turns to taken turns ++ pieces_of_turns to (taken + turns_step_count turns) more
unfolding pieces_of_turns turns_step_count
pieces_both to taken [] more = ap (λ n. pieces_of_turns to n more) (sym (add-zero taken))
pieces_both to taken (turn ∷ turns) more =
    let count : (taken + turn_step_count turn) + turns_step_count turns ≡ taken + (turn_step_count turn + turns_step_count turns) = omega arith in
    let first = text.pieces_of_turn to taken turn in
    ap (λ l. first ++ l) (pieces_both to (taken + turn_step_count turn) turns more
    ∙ ap (λ n. pieces_of_turns to (taken + turn_step_count turn) turns ++ pieces_of_turns to n more) count)
    ∙ sym (append_assoc first (pieces_of_turns to (taken + turn_step_count turn) turns)
    (pieces_of_turns to (taken + (turn_step_count turn + turns_step_count turns)) more))

pieces_on :
    (to : RunOutput) (turns same more : List Turn) → same ≡ turns ++ more
    → IsPrefix (pieces_of_turns to 0 turns) (pieces_of_turns to 0 same)
pieces_on to turns same more is = record {
  left = pieces_of_turns to (0 + turns_step_count turns) more;
  is = ap (pieces_of_turns to 0) is ∙ pieces_both to 0 turns more;
}

-- the pieces of a run are those of its turns and of its end
pieces_end :
    (denied : List (List ℕ)) (to : RunOutput) (turns : List Turn) (how : Option Finish)
    → run_pieces denied to turns how ≡ pieces_of_turns to 0 turns ++ end_pieces denied how (turns_step_count turns)
unfolding run_pieces
pieces_end denied to turns how = refl

-- ---- a call, and plain turns

no_finish :
    {P : Type 0} (lib : Library) (limit : ℕ) (first last last' : Booted) (turns same : List Turn) (how : Finish)
    → GoesOn lib lib turns same last → Goes lib limit first same last' → Finishes how lib limit turns last → P
no_finish lib limit first last last' turns same how on goes finishes =
    absurd (ends_there lib lib limit turns same last how (λ r. refl) on goes.few finishes)

unended :
    (last : Booted) (unput : List (List ℕ)) (result : Result (Unit {0}) Status) → StopsAs None last unput result
    → IsEnd result → ⊥
unended last unput result (inl is) end = starved_ends result is.1.1 end
unended last unput result (inr is) end = unput_ends result is end

-- The turns go on where the call stopped, so it did not finish, and all that it put is written by the turns.
short :
    (how : Option Finish) (run : RunContext) (limit : ℕ) (first last last' : Booted) (turns same : List Turn)
    (put unput : List (List ℕ))
    (result : Result (Unit {0}) Status)
    → GoesOn run.lib run.lib same turns last' → Goes run.lib limit first turns last
    → FinishesAs how run.lib limit same last'
    → run_pieces run.denied run.output same how ≡ put ++ unput → StopsAs how last' unput result
    → IsPrefix put (pieces_of_turns run.output 0 turns) × (IsEnd result → ⊥)
short (Some h) run limit first last last' turns same put unput result on goes finishes are stops =
    no_finish run.lib limit first last' last same turns h on goes finishes
short None run limit first last last' turns same put unput result on goes finishes are stops =
    let more = pieces_on run.output same turns (on.next ∷ on.more) on.is in
    let put_is : pieces_of_turns run.output 0 same ≡ put ++ unput =
    sym (append-nil (pieces_of_turns run.output 0 same)) ∙ sym (pieces_end run.denied run.output same None) ∙ are in (
      record {
        left = unput ++ more.left;
        is = more.is ∙ ap (λ l. l ++ more.left) put_is ∙ append_assoc put unput more.left;
      },
      unended last' unput result stops,
    )

agrees_by :
    (run : RunContext) (limit : ℕ) (first last : Booted) (turns : List Turn) (events : List Event)
    (result : Result (Unit {0}) Status)
    → (ran : IsBootedRun run limit first events result) → Goes run.lib limit first turns last
    → Meet run.lib run.lib turns ran.turns last ran.last → OneIsPrefix (pieces_of events) (pieces_of_turns run.output 0 turns)
agrees_by run limit first last turns events result ran goes (inl are) =
    prefixes_agree (pieces_of events) ran.unput (pieces_of_turns run.output 0 turns)
    (end_pieces run.denied ran.how (turns_step_count ran.turns))
    (sym ran.pieces ∙ pieces_end run.denied run.output ran.turns ran.how
    ∙ ap (λ t. pieces_of_turns run.output 0 t ++ end_pieces run.denied ran.how (turns_step_count ran.turns)) (sym are.turns_are))
agrees_by run limit first last turns events result ran goes (inr (inl on)) =
    let more = pieces_on run.output turns ran.turns (on.next ∷ on.more) on.is in
    let ending = end_pieces run.denied ran.how (turns_step_count ran.turns) in
    prefixes_agree (pieces_of events) ran.unput (pieces_of_turns run.output 0 turns) (more.left ++ ending)
    (sym ran.pieces ∙ pieces_end run.denied run.output ran.turns ran.how ∙ ap (λ l. l ++ ending) more.is
    ∙ append_assoc (pieces_of_turns run.output 0 turns) more.left ending)
agrees_by run limit first last turns events result ran goes (inr (inr on)) =
    inl (short ran.how run limit first last ran.last turns ran.turns
    (pieces_of events) ran.unput result on goes ran.finishes ran.pieces ran.stops).0

-- ---- a call, and a whole run

-- A call that did not end, and put what the turns write.
text_short :
    (run : RunContext) (turns : List Turn) (how : Finish) (put : List (List ℕ)) (result end : Result (Unit {0}) Status)
    → IsPrefix put (pieces_of_turns run.output 0 turns) → (IsEnd result → ⊥)
    → OneText put (run_pieces run.denied run.output turns (Some how)) result end
text_short run turns how put result end first unended =
    let ending = end_pieces run.denied (Some how) (turns_step_count turns) in record {
      left = first.left ++ ending;
      is = pieces_end run.denied run.output turns (Some how) ∙ ap (λ l. l ++ ending) first.is
          ∙ append_assoc put first.left ending;
      ended = λ ended. absurd (unended ended);
    }

text_stops :
    (how : Finish) (last : Booted) (unput : List (List ℕ)) (result : Result (Unit {0}) Status)
    → StopsAs (Some how) last unput result → IsEnd result → (unput ≡ []) × (result ≡ result_of_status (finish_status (Some how)))
text_stops how last unput result (inl is) end = is
text_stops how last unput result (inr is) end = unput_ends result is end

-- The call made these turns.
text_same :
    (other : Option Finish) (run : RunContext) (limit : ℕ) (last last' : Booted) (turns same : List Turn) (how : Finish)
    (put unput : List (List ℕ))
    (result : Result (Unit {0}) Status)
    → AreSame run.lib run.lib turns same last last' → Finishes how run.lib limit turns last
    → FinishesAs other run.lib limit same last'
    → run_pieces run.denied run.output same other ≡ put ++ unput → StopsAs other last' unput result
    → OneText put (run_pieces run.denied run.output turns (Some how)) result (result_of_status (finish_status (Some how)))
text_same None run limit last last' turns same how put unput result are finishes finishes' put_is stops =
    text_short run turns how put result (result_of_status (finish_status (Some how)))
    (record {
      left = unput;
      is = ap (pieces_of_turns run.output 0) are.turns_are ∙ sym (append-nil (pieces_of_turns run.output 0 same))
          ∙ sym (pieces_end run.denied run.output same None) ∙ put_is;
    })
    (unended last' unput result stops)
text_same (Some h) run limit last last' turns same how put unput result are finishes finishes' put_is stops =
    let one : how ≡ h = finish_one run.lib run.lib limit turns same last last' how h
    (λ r. refl) are finishes finishes' in record {
      left = unput;
      is = ap (λ t. run_pieces run.denied run.output t (Some how)) are.turns_are
          ∙ ap (λ f. run_pieces run.denied run.output same (Some f)) one ∙ put_is;
      ended = λ end.
          let ended = text_stops h last' unput result stops end in
          (ended.0, ended.1 ∙ ap (λ f. result_of_status (finish_status (Some f))) (sym one));
    }

text_by :
    (run : RunContext) (limit : ℕ) (first last : Booted) (turns : List Turn) (how : Finish) (events : List Event)
    (result : Result (Unit {0}) Status)
    → (ran : IsBootedRun run limit first events result) → Goes run.lib limit first turns last
    → Finishes how run.lib limit turns last
    → Meet run.lib run.lib turns ran.turns last ran.last
    → OneText (pieces_of events) (run_pieces run.denied run.output turns (Some how)) result
    (result_of_status (finish_status (Some how)))
text_by run limit first last turns how events result ran goes finishes (inl are) =
    text_same ran.how run limit last ran.last turns ran.turns how
    (pieces_of events) ran.unput result are finishes ran.finishes ran.pieces ran.stops
text_by run limit first last turns how events result ran goes finishes (inr (inl on)) =
    no_finish run.lib limit first last ran.last turns ran.turns how on ran.goes finishes
text_by run limit first last turns how events result ran goes finishes (inr (inr on)) =
    let stopped = short ran.how run limit first last ran.last turns ran.turns
    (pieces_of events) ran.unput result on goes ran.finishes ran.pieces ran.stops in
    text_short run turns how (pieces_of events) result (result_of_status (finish_status (Some how))) stopped.0 stopped.1

-- ---- of one system

pub run_agrees :
    (run : RunContext) (limit : ℕ) (system : SuperFields) (last : Booted) (turns : List Turn) (events : List Event)
    (result : Result (Unit {0}) Status)
    → IsBooted run.lib system → IsBootedRun run limit (booted_of system) events result
    → Goes run.lib limit (booted_of system) turns last
    → Each IsPlainTurn turns → OneIsPrefix (pieces_of events) (pieces_of_turns run.output 0 turns)
run_agrees run limit system last turns events result booted ran goes plain =
    agrees_by run limit (booted_of system) last turns events result ran goes
    (meet_here run.lib limit system turns ran.turns last ran.last booted goes ran.goes plain)

pub run_text :
    (run : RunContext) (limit : ℕ) (system : SuperFields) (last : Booted) (turns : List Turn) (how : Finish)
    (events : List Event)
    (result : Result (Unit {0}) Status)
    → IsBooted run.lib system → IsBootedRun run limit (booted_of system) events result
    → Goes run.lib limit (booted_of system) turns last
    → Finishes how run.lib limit turns last → Each IsPlainTurn turns
    → OneText (pieces_of events) (run_pieces run.denied run.output turns (Some how)) result
    (result_of_status (finish_status (Some how)))
run_text run limit system last turns how events result booted ran goes finishes plain =
    text_by run limit (booted_of system) last turns how events result ran goes finishes
    (meet_here run.lib limit system turns ran.turns last ran.last booted goes ran.goes plain)

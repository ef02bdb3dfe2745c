-- A step with its service, and a service alone: what is left of the run's program.
use Rattle.std.proofs.Common.{◌≡◌, ℕ, suc, ◌+◌, Bool, true, false, List, [], ◌∷◌, ◌++◌, length, Result, Ok, Err, refl, sym, ap, subst, ◌∙◌, arith}
use Rattle.m36_world.specs.Seen.{Seen}
use Rattle.m36_world.specs.Happened.{IsOutputFailed}
use Rattle.m36_world.specs.Follow.{Follow, outputs}
use Rattle.m36_model.specs.Fields.{AtFields}
use Rattle.m36_model.specs.declared.endings.End.{End}
use Rattle.m36_model.specs.declared.outcome.Fault.{Fault}
use Rattle.m36_model.specs.declared.record.StepRecord.{StepRecord}
use Rattle.m36_model.specs.StoreLaw.{Each}
use Rattle.m36_step.specs.Answers.{IsStepWithNext}
use Rattle.m36_step.specs.LinkNoteFields.{LinkNoteFields}
use Rattle.m36_step.specs.declared.turns.Turn.{Turn}
use Rattle.m36_step.specs.declared.turns.Turn.TheVariants as turn
use Rattle.m36_super.specs.Library.{Library}
use Rattle.m36_super.specs.declared.next_event.NextEvent.{NextEvent}
use Rattle.m36_super.specs.declared.next_event.NextEvent.TheVariants.{Step, Link, Print, Over}
use Rattle.m36_super.specs.BootedRun.{Booted, IsConsoleTurn, IsTurnBy, IsTurn, AreTurns}
use Rattle.m36_super.specs.HurriedSteps.{AreStepsWithNext}
use Rattle.m36_super.specs.SuperFields.{SuperFields, booted_of}
use Rattle.m36_super.specs.SuperTurn.{SuperTurns}
use Rattle.m36_status.specs.declared.status.Status.TheVariants.{WriteFault, NoMemory}
use Rattle.m36_program.specs.Gathered.{Gathers, Loses}
use Rattle.m36_program.specs.Goes.{Goes}
use Rattle.m36_program.specs.Performs.{Performs, Leads}
use Rattle.m36_program.specs.Program.{quiet, Program, puts_all, some, wants}
use Rattle.m36_program.proofs.LeadLaws.{leads_start, leads_as, leads_ends, leads_gathers, leads_lost}
use Rattle.m36_program.proofs.Performing.{goes_some, goes_wants}
use Rattle.m36_program.proofs.PutLaws.{puts_none}
use Rattle.cmd_folder.specs.declared.command.RunOutput.{RunOutput}
use Rattle.cmd_folder.specs.declared.command.RunOutput.TheVariants as output
use Rattle.cmd_folder.specs.declared.finish.Finish.TheVariants as finish
use Rattle.cmd_folder.specs.RunText.{console_pieces_of_turn, pieces_of_turn}
use Rattle.cmd_folder.proofs.TurnLaws.{turn_prints, step_behind, link_behind, print_behind}
use Rattle.cmd_folder.specs.declared.running.AfterTurn.{AfterTurn}
use Rattle.cmd_folder.specs.declared.running.AfterTurn.TheVariants as after
use Rattle.cmd_folder.specs.RunProgram.{RunContext, TurnAndState, IsPossibleTurn, FindsMemory, put_run_end, puts_turn, after_service, continue_after_service, serve_event, serve, run_from}
use Rattle.cmd_folder.specs.RunSays.{IsConsoleTextPut, run_of, rest_from_step, rest_from_service, TurnResult, MatchesNextEvent}
use Rattle.cmd_folder.proofs.BlockLaws.{GoesAs, leads_under, leads_on, performs_starved, performs_unput}

-- the program after a step, by what is next
abbrev served : RunContext → ℕ → ℕ → Booted → Program quiet (Unit {0})
served run taken left b = serve run taken (λ b. run_from run taken left b) b

abbrev then_from : RunContext → ℕ → ℕ → Booted → Program quiet (Unit {0})
then_from run taken left b = continue_after_service run taken (λ b. run_from run taken left b) b

serve_is :
    (next_event : NextEvent) (run : RunContext) (taken left : ℕ) (b : Booted)
    → b.next_event ≡ next_event → served run taken left b ≡ serve_event next_event run taken (λ b. run_from run taken left b) b
unfolding serve
serve_is next_event run taken left b is = ap (λ c. serve_event c run taken (λ b. run_from run taken left b) b) is

then_is :
    (next_event : NextEvent) (run : RunContext) (taken left : ℕ) (b : Booted)
    → b.next_event ≡ next_event → then_from run taken left b ≡ after_service next_event run taken (λ b. run_from run taken left b) b
then_is next_event run taken left b is = ap (λ c. after_service c run taken (λ b. run_from run taken left b) b) is

-- ---- a turn goes as the program says

goes_by :
    (p q r : Program quiet (Unit {0})) → p ≡ q → GoesAs r q → GoesAs r p
goes_by p q r same on events result goes = subst (λ p. Goes p events result) (sym same) (on events result goes)

link_as :
    (run : RunContext) (taken left : ℕ) (b after : Booted) (note : LinkNoteFields) (at : AtFields)
    → b.next_event ≡ Link at → IsTurn run.lib b (turn.Linked note) after
    → GoesAs (puts_all (pieces_of_turn run.output taken (turn.Linked note)) (then_from run taken left after)) (served run taken left b)
link_as run taken left b after note at is turns =
    let made : TurnAndState = record { turn = turn.Linked note; after = after } in
    let go = puts_turn run taken (λ b. then_from run taken left b) in
    goes_by (served run taken left b) (wants (some (FindsMemory run.lib b) go)) (go made) (serve_is (Link at) run taken left b is)
    (λ events result goes.
    goes_wants (some (FindsMemory run.lib b) go) events result
    (goes_some (FindsMemory run.lib b) go made events result (record { is = turns; found = λ e. cc }) goes))

print_as :
    (run : RunContext) (taken left : ℕ) (b after : Booted) (told : Turn)
    → b.next_event ≡ Print → IsTurn run.lib b told after
    → GoesAs (puts_all (pieces_of_turn run.output taken told) (then_from run taken left after)) (served run taken left b)
print_as run taken left b after told is turns =
    let made : TurnAndState = record { turn = told; after = after } in
    let go = puts_turn run taken (λ b. then_from run taken left b) in
    goes_by (served run taken left b) (some (IsPossibleTurn run.lib b) go) (go made) (serve_is Print run taken left b is)
    (λ events result goes. goes_some (IsPossibleTurn run.lib b) go made events result turns goes)

step_as :
    (run : RunContext) (taken left : ℕ) (b after : Booted) (told : Turn)
    → IsTurn run.lib b told after
    → GoesAs (puts_all (pieces_of_turn run.output taken told) (served run (taken + 1) left after)) (run_from run taken (suc left) b)
unfolding run_from
step_as run taken left b after told turns events result goes =
    goes_some (IsPossibleTurn run.lib b) (puts_turn run taken (served run (taken + 1) left)) (record { turn = told; after = after }) events result turns goes

-- ---- pieces of a turn are added

-- what a turn leads to
leads_turn :
    (block block' pieces : List (List ℕ)) (rest now : Program quiet (Unit {0})) (old new : Seen)
    → GoesAs (puts_all pieces rest) now → Gathers block block' pieces old new
    → Leads (puts_all block' rest) (puts_all block now) old new
leads_turn block block' pieces rest now old new on gathers =
    leads_gathers block block' pieces rest (puts_all block now) old old new
    (leads_under block (puts_all pieces rest) now (puts_all block now) old old on (leads_start (puts_all block now) old)) gathers

lost_turn :
    (block pieces : List (List ℕ)) (rest now : Program quiet (Unit {0})) (old new : Seen)
    → GoesAs (puts_all pieces rest) now → Loses (block ++ pieces) old new
    → Performs (puts_all block now) (Err WriteFault) old new
lost_turn block pieces rest now old new on lost =
    leads_lost block pieces rest (puts_all block now) old old new
    (leads_under block (puts_all pieces rest) now (puts_all block now) old old on (leads_start (puts_all block now) old)) lost

-- ---- services

pub serve_none :
    (output : RunOutput) (taken : ℕ) (s : SuperFields) (block : List (List ℕ)) (seen : Seen)
    → s.next_event ≡ Step → IsConsoleTextPut output block
    → TurnResult after.Next s.lib output (rest_from_service block taken (booted_of s)) taken s block seen seen
serve_none output taken s block seen is shown = record {
  leads = λ denied left.
      let run = run_of s.lib output denied in
      leads_as (puts_all block (served run taken left (booted_of s))) (puts_all block (run_from run taken left (booted_of s)))
      (puts_all block (served run taken left (booted_of s))) seen seen
      (ap (puts_all block) (serve_is Step run taken left (booted_of s) is)) (leads_start (puts_all block (served run taken left (booted_of s))) seen);
  next = is;
  same = refl;
  shown = shown;
}

pub serve_over :
    (output : RunOutput) (taken : ℕ) (s : SuperFields) (e : End) (block : List (List ℕ)) (seen : Seen)
    → s.next_event ≡ Over e
    → TurnResult (after.Ended e) s.lib output (rest_from_service block taken (booted_of s)) taken s block seen seen
serve_over output taken s e block seen is = record {
  leads = λ denied left.
      let run = run_of s.lib output denied in
      leads_as (puts_all block (served run taken left (booted_of s))) (puts_all block (put_run_end run taken (finish.Over e)))
      (puts_all block (served run taken left (booted_of s))) seen seen
      (ap (puts_all block) (serve_is (Over e) run taken left (booted_of s) is)) (leads_start (puts_all block (served run taken left (booted_of s))) seen);
}

-- a link service ran out of memory: the lines before it were put, or not
pub link_starves :
    (output : RunOutput) (taken : ℕ) (before later : SuperFields) (at : AtFields) (block block' : List (List ℕ)) (old new : Seen)
    → before.next_event ≡ Link at → Follow (outputs block) old new
    → TurnResult after.NoMemory before.lib output (rest_from_service block taken (booted_of before)) taken later block' old new
link_starves output taken before later at block block' old new is follow = record {
  performs = λ denied left.
      let run = run_of before.lib output denied in
      subst (λ p. Performs (puts_all block p) (Err NoMemory) old new) (sym (serve_is (Link at) run taken left (booted_of before) is))
      (performs_starved block _ old new follow);
}

pub link_unput :
    (output : RunOutput) (taken : ℕ) (before later : SuperFields) (block block' : List (List ℕ)) (old new : Seen)
    → IsOutputFailed block old new
    → TurnResult after.WriteFailed before.lib output (rest_from_service block taken (booted_of before)) taken later block' old new
link_unput output taken before later block block' old new fails = record {
  performs = λ denied left. performs_unput block (served (run_of before.lib output denied) taken left (booted_of before)) old new fails;
}

pub link_lost :
    (output : RunOutput) (taken : ℕ) (before later : SuperFields) (note : LinkNoteFields) (at : AtFields) (block block' : List (List ℕ)) (old new : Seen)
    → before.next_event ≡ Link at → SuperTurns before (turn.Linked note) later
    → Loses (block ++ pieces_of_turn output taken (turn.Linked note)) old new
    → TurnResult after.WriteFailed before.lib output (rest_from_service block taken (booted_of before)) taken later block' old new
link_lost output taken before later note at block block' old new is turns lost = record {
  performs = λ denied left.
      let run = run_of before.lib output denied in
      lost_turn block (pieces_of_turn output taken (turn.Linked note)) (then_from run taken left (booted_of later)) (served run taken left (booted_of before)) old new
      (link_as run taken left (booted_of before) (booted_of later) note at is turns.0) lost;
}

pub link_goes :
    (p : AfterTurn) (output : RunOutput) (taken : ℕ) (before later : SuperFields) (note : LinkNoteFields) (at : AtFields)
    (block block' : List (List ℕ)) (old new : Seen)
    → before.next_event ≡ Link at → SuperTurns before (turn.Linked note) later
    → Gathers block block' (pieces_of_turn output taken (turn.Linked note)) old new → IsConsoleTextPut output block'
    → MatchesNextEvent p later.next_event
    → TurnResult p before.lib output (rest_from_service block taken (booted_of before)) taken later block' old new
link_goes after.Next output taken before later note at block block' old new is turns adds shown next = record {
  leads = λ denied left.
      let run = run_of before.lib output denied in
      leads_turn block block' (pieces_of_turn output taken (turn.Linked note)) (run_from run taken left (booted_of later)) (served run taken left (booted_of before)) old new
      (subst (λ p. GoesAs (puts_all (pieces_of_turn output taken (turn.Linked note)) p) (served run taken left (booted_of before)))
      (then_is Step run taken left (booted_of later) next)
      (link_as run taken left (booted_of before) (booted_of later) note at is turns.0)) adds;
  next = next;
  same = turns.1;
  shown = shown;
}
link_goes (after.Ended e) output taken before later note at block block' old new is turns adds shown next = record {
  leads = λ denied left.
      let run = run_of before.lib output denied in
      leads_turn block block' (pieces_of_turn output taken (turn.Linked note)) (put_run_end run taken (finish.Over e)) (served run taken left (booted_of before)) old new
      (subst (λ p. GoesAs (puts_all (pieces_of_turn output taken (turn.Linked note)) p) (served run taken left (booted_of before)))
      (then_is (Over e) run taken left (booted_of later) next)
      (link_as run taken left (booted_of before) (booted_of later) note at is turns.0)) adds;
}
link_goes after.WriteFailed output taken before later note at block block' old new is turns adds shown next = absurd next
link_goes after.NoMemory output taken before later note at block block' old new is turns adds shown next = absurd next

pub print_lost :
    (output : RunOutput) (taken : ℕ) (before later : SuperFields) (told : List ℕ) (block block' : List (List ℕ)) (old new : Seen)
    → before.next_event ≡ Print → SuperTurns before (turn.Console told) later
    → Loses (block ++ pieces_of_turn output taken (turn.Console told)) old new
    → TurnResult after.WriteFailed before.lib output (rest_from_service block taken (booted_of before)) taken later block' old new
print_lost output taken before later told block block' old new is turns lost = record {
  performs = λ denied left.
      let run = run_of before.lib output denied in
      lost_turn block (pieces_of_turn output taken (turn.Console told)) (then_from run taken left (booted_of later)) (served run taken left (booted_of before)) old new
      (print_as run taken left (booted_of before) (booted_of later) (turn.Console told) is turns.0) lost;
}

pub print_goes :
    (output : RunOutput) (taken : ℕ) (before later : SuperFields) (told : List ℕ) (block block' : List (List ℕ)) (old new : Seen)
    → before.next_event ≡ Print → SuperTurns before (turn.Console told) later
    → Gathers block block' (pieces_of_turn output taken (turn.Console told)) old new → IsConsoleTextPut output block'
    → TurnResult after.Next before.lib output (rest_from_service block taken (booted_of before)) taken later block' old new
print_goes output taken before later told block block' old new is turns adds shown =
    let next : later.next_event ≡ Step = print_behind before later told is turns in record {
      leads = λ denied left.
          let run = run_of before.lib output denied in
          leads_turn block block' (pieces_of_turn output taken (turn.Console told)) (run_from run taken left (booted_of later)) (served run taken left (booted_of before)) old new
          (subst (λ p. GoesAs (puts_all (pieces_of_turn output taken (turn.Console told)) p) (served run taken left (booted_of before)))
          (then_is Step run taken left (booted_of later) next)
          (print_as run taken left (booted_of before) (booted_of later) (turn.Console told) is turns.0)) adds;
      next = next;
      same = turns.1;
      shown = shown;
    }

-- ---- a console service that ends the run

abbrev IsEnd : Turn → Type 0
IsEnd (turn.Stepped told) = ⊥
IsEnd (turn.Linked note) = ⊥
IsEnd (turn.Console text) = ⊥
IsEnd (turn.Ended e) = Unit {0}
IsEnd turn.Full = ⊥
IsEnd turn.NoMemory = ⊥

abbrev end_in : Turn → End → End
end_in (turn.Stepped told) e = e
end_in (turn.Linked note) e = e
end_in (turn.Console text) e = e
end_in (turn.Ended other) e = other
end_in turn.Full e = e
end_in turn.NoMemory e = e

pub console_over :
    (many : Bool) (text : Result (List ℕ) Fault) (before : Booted) (e : End) (later : Booted)
    → IsConsoleTurn many text before (turn.Ended e) later → later.next_event ≡ Over e
console_over true text before e later is =
    ap (λ (r : Booted). r.next_event) is.1 ∙ ap (λ t. Over (end_in t e)) (sym is.0)
console_over false (Err f) before e later is =
    ap (λ (r : Booted). r.next_event) is.1 ∙ ap (λ t. Over (end_in t e)) (sym is.0)
console_over false (Ok text) before e later is = absurd (subst IsEnd is.0 tt)

pub print_over :
    (lib : Library) (before : Booted) (e : End) (later : Booted)
    → before.next_event ≡ Print → IsTurn lib before (turn.Ended e) later → later.next_event ≡ Over e
unfolding IsTurn
print_over lib before e later is turns =
    let so : IsTurnBy Print lib before (turn.Ended e) later = subst (λ c. IsTurnBy c lib before (turn.Ended e) later) is turns in
    console_over _ _ before e later so

pub ended_pieces : (output : RunOutput) (taken : ℕ) (e : End) → pieces_of_turn output taken (turn.Ended e) ≡ []
ended_pieces output.Console taken e = refl
ended_pieces output.Trace taken e = refl

over_as :
    (run : RunContext) (taken left : ℕ) (b later : Booted) (e : End)
    → b.next_event ≡ Print → IsTurn run.lib b (turn.Ended e) later → GoesAs (put_run_end run taken (finish.Over e)) (served run taken left b)
over_as run taken left b later e is turns =
    let over = print_over run.lib b e later is turns in
    subst (λ p. GoesAs p (served run taken left b))
    (ap (λ l. puts_all l (then_from run taken left later)) (ended_pieces run.output taken e) ∙ puts_none (then_from run taken left later)
    ∙ then_is (Over e) run taken left later over)
    (print_as run taken left b later (turn.Ended e) is turns)

pub print_ends :
    (output : RunOutput) (taken : ℕ) (before later : SuperFields) (e : End) (block : List (List ℕ)) (seen : Seen)
    → before.next_event ≡ Print → SuperTurns before (turn.Ended e) later
    → TurnResult (after.Ended e) before.lib output (rest_from_service block taken (booted_of before)) taken later block seen seen
print_ends output taken before later e block seen is turns = record {
  leads = λ denied left.
      let run = run_of before.lib output denied in
      leads_under block (put_run_end run taken (finish.Over e)) (served run taken left (booted_of before)) (puts_all block (served run taken left (booted_of before))) seen seen
      (over_as run taken left (booted_of before) (booted_of later) e is turns.0)
      (leads_start (puts_all block (served run taken left (booted_of before))) seen);
}

pub ruleset services = (turn_prints, link_behind, serve_none, serve_over, link_starves, link_unput, link_lost, link_goes, print_lost, print_goes, print_ends)

-- ---- a step, and then a service

pub step_lost :
    (output : RunOutput) (taken : ℕ) (before later : SuperFields) (told : StepRecord) (block block' : List (List ℕ)) (old new : Seen)
    → SuperTurns before (turn.Stepped told) later → Loses (block ++ pieces_of_turn output taken (turn.Stepped told)) old new
    → TurnResult after.WriteFailed before.lib output (rest_from_step block taken (booted_of before)) (taken + 1) later block' old new
step_lost output taken before later told block block' old new turns lost = record {
  performs = λ denied left.
      let run = run_of before.lib output denied in
      lost_turn block (pieces_of_turn output taken (turn.Stepped told)) (served run (taken + 1) left (booted_of later)) (run_from run taken (suc left) (booted_of before)) old new
      (step_as run taken left (booted_of before) (booted_of later) (turn.Stepped told) turns.0) lost;
}

step_leads :
    (output : RunOutput) (taken : ℕ) (before mid : SuperFields) (told : StepRecord) (block block' : List (List ℕ)) (old new : Seen)
    → SuperTurns before (turn.Stepped told) mid → Gathers block block' (pieces_of_turn output taken (turn.Stepped told)) old new
    → (denied : List (List ℕ)) (left : ℕ)
    → Leads (puts_all block' (served (run_of before.lib output denied) (taken + 1) left (booted_of mid)))
    (puts_all block (run_from (run_of before.lib output denied) taken (suc left) (booted_of before))) old new
step_leads output taken before mid told block block' old new turns adds denied left =
    let run = run_of before.lib output denied in
    leads_turn block block' (pieces_of_turn output taken (turn.Stepped told)) (served run (taken + 1) left (booted_of mid)) (run_from run taken (suc left) (booted_of before)) old new
    (step_as run taken left (booted_of before) (booted_of mid) (turn.Stepped told) turns.0) adds

step_then :
    (p : AfterTurn) (output : RunOutput) (taken : ℕ) (before mid later : SuperFields) (told : StepRecord) (block now block' : List (List ℕ))
    (old between new : Seen)
    → SuperTurns before (turn.Stepped told) mid → Gathers block now (pieces_of_turn output taken (turn.Stepped told)) old between
    → TurnResult p before.lib output (rest_from_service now (taken + 1) (booted_of mid)) (taken + 1) later block' between new
    → TurnResult p before.lib output (rest_from_step block taken (booted_of before)) (taken + 1) later block' old new
step_then after.Next output taken before mid later told block now block' old between new turns adds says = record {
  leads = λ denied left.
      leads_on _ _ _ old between new (step_leads output taken before mid told block now old between turns adds denied left) (says.leads denied left);
  next = says.next;
  same = says.same;
  shown = says.shown;
}
step_then (after.Ended e) output taken before mid later told block now block' old between new turns adds says = record {
  leads = λ denied left.
      leads_on _ _ _ old between new (step_leads output taken before mid told block now old between turns adds denied left) (says.leads denied left);
}
step_then after.WriteFailed output taken before mid later told block now block' old between new turns adds says = record {
  performs = λ denied left.
      leads_ends _ _ (Err WriteFault) old between new (step_leads output taken before mid told block now old between turns adds denied left) (says.performs denied left);
}
step_then after.NoMemory output taken before mid later told block now block' old between new turns adds says = record {
  performs = λ denied left.
      leads_ends _ _ (Err NoMemory) old between new (step_leads output taken before mid told block now old between turns adds denied left) (says.performs denied left);
}

pub step_goes :
    (p : AfterTurn) (output : RunOutput) (taken : ℕ) (before mid later : SuperFields) (told : StepRecord) (block now block' : List (List ℕ))
    (old between new : Seen)
    → SuperTurns before (turn.Stepped told) mid → Gathers block now (pieces_of_turn output taken (turn.Stepped told)) old between
    → TurnResult p mid.lib output (rest_from_service now (taken + 1) (booted_of mid)) (taken + 1) later block' between new
    → TurnResult p before.lib output (rest_from_step block taken (booted_of before)) (taken + 1) later block' old new
step_goes p output taken before mid later told block now block' old between new turns adds says =
    step_then p output taken before mid later told block now block' old between new turns adds
    (subst (λ l. TurnResult p l output (rest_from_service now (taken + 1) (booted_of mid)) (taken + 1) later block' between new) turns.1 says)

pub ruleset stepping = (step_lost, step_goes)

-- ---- steps of which nothing is written, one after another

nothing_written : (turn : Turn) → IsStepWithNext turn → console_pieces_of_turn turn ≡ []
nothing_written (turn.Stepped told) on = refl
nothing_written (turn.Linked note) on = absurd on
nothing_written (turn.Console text) on = absurd on
nothing_written (turn.Ended e) on = absurd on
nothing_written turn.Full on = absurd on
nothing_written turn.NoMemory on = absurd on

module _ (lib : Library) (denied : List (List ℕ)) where
  abbrev shows_none : RunContext
  shows_none = run_of lib output.Console denied

  hurried_step :
      (taken left : ℕ) (b after : Booted) (turn : Turn)
      → IsTurn lib b turn after → IsStepWithNext turn → after.next_event ≡ Step
      → GoesAs (run_from shows_none (taken + 1) left after) (run_from shows_none taken (suc left) b)
  hurried_step taken left b after turn turns on next =
      subst (λ p. GoesAs p (run_from shows_none taken (suc left) b))
      (ap (λ l. puts_all l (served shows_none (taken + 1) left after)) (nothing_written turn on)
      ∙ puts_none (served shows_none (taken + 1) left after) ∙ serve_is Step shows_none (taken + 1) left after next)
      (step_as shows_none taken left b after turn turns)

  hurried_turns :
      (turns : List Turn) (taken left : ℕ) (b last : Booted)
      → b.next_event ≡ Step → AreTurns lib b turns last → Each IsStepWithNext turns
      → GoesAs (run_from shows_none (taken + length turns) left last) (run_from shows_none taken (length turns + left) b)
  unfolding AreTurns
  hurried_turns [] taken left b last next are each events result goes =
      let e : taken + 0 ≡ taken = omega arith in
      let f : left ≡ 0 + left = omega arith in
      subst (λ p. Goes p events result) (λ i. run_from shows_none (e i) (f i) (are i)) goes
  hurried_turns (turn ∷ turns) taken left b last next are each events result goes =
      let mid = are.0 in
      let then_step : mid.next_event ≡ Step = step_behind lib b turn mid next are.1 each.0 in
      let e : taken + suc (length turns) ≡ (taken + 1) + length turns = omega arith in
      let f : suc (length turns + left) ≡ suc (length turns) + left = omega arith in
      let rest = hurried_turns turns (taken + 1) left mid last then_step are.2 each.1 events result
      (subst (λ n. Goes (run_from shows_none n left last) events result) e goes) in
      subst (λ n. Goes (run_from shows_none taken n b) events result) f
      (hurried_step taken (length turns + left) b mid turn are.1 each.0 then_step events result rest)

pub hurried_goes :
    (shown : RunOutput) (lib : Library) (n : ℕ) (before last : Booted)
    → shown ≡ output.Console → before.next_event ≡ Step → AreStepsWithNext lib before n last
    → (denied : List (List ℕ)) (taken left : ℕ)
    → GoesAs (run_from (run_of lib shown denied) (taken + n) left last) (run_from (run_of lib shown denied) taken (n + left) before)
hurried_goes shown lib n before last is next steps denied taken left =
    subst (λ o. GoesAs (run_from (run_of lib o denied) (taken + n) left last) (run_from (run_of lib o denied) taken (n + left) before)) (sym is)
    (subst (λ n. GoesAs (run_from (run_of lib output.Console denied) (taken + n) left last) (run_from (run_of lib output.Console denied) taken (n + left) before)) steps.count
    (hurried_turns lib denied steps.turns taken left before last next steps.are steps.each))

pub none_goes :
    (run : RunContext) (taken left : ℕ) (b : Booted)
    → GoesAs (run_from run (taken + 0) left b) (run_from run taken (0 + left) b)
none_goes run taken left b events result goes =
    let e : taken + 0 ≡ taken = omega arith in
    let f : left ≡ 0 + left = omega arith in
    subst (λ p. Goes p events result) (λ i. run_from run (e i) (f i) b) goes

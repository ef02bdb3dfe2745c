-- A step with its service, and a service alone: what is left of the run's program.
use Rattle.std.proofs.Common.{◌≡◌, ℕ, suc, ◌+◌, List, [], ◌∷◌, length, Result, Ok, Err, refl, sym, ap, subst, arith}
use Rattle.m36_model.specs.Fields.{AtFields}
use Rattle.m36_model.specs.declared.endings.End.{End}
use Rattle.m36_model.specs.declared.record.StepRecord.{StepRecord}
use Rattle.m36_model.specs.StoreLaw.{Each}
use Rattle.m36_step.specs.Answers.{IsStepWithNext}
use Rattle.m36_step.specs.LinkNoteFields.{LinkNoteFields}
use Rattle.m36_step.specs.declared.turns.Turn.{Turn}
use Rattle.m36_step.specs.declared.turns.Turn.TheVariants as turn
use Rattle.m36_super.specs.Library.{Library}
use Rattle.m36_super.specs.declared.next_event.NextEvent.{NextEvent}
use Rattle.m36_super.specs.declared.next_event.NextEvent.TheVariants.{Step, Link, Print, Over}
use Rattle.m36_super.specs.BootedRun.{Booted, IsTurn, AreTurns}
use Rattle.m36_super.specs.HurriedSteps.{AreStepsWithNext}
use Rattle.m36_super.specs.SuperFields.{SuperFields, booted_of}
use Rattle.m36_super.specs.SuperTurn.{SuperTurns}
use Rattle.m36_status.specs.declared.status.Status.{Status}
use Rattle.m36_status.specs.declared.status.Status.TheVariants.{NoMemory}
use Rattle.m36_program.specs.Goes.{Goes}
use Rattle.m36_program.specs.Program.{quiet, Program, some}
use Rattle.m36_program.proofs.Performing.{goes_done, goes_some, goes_wants, goes_no_memory}
use Rattle.cmd_folder.specs.declared.finish.Finish.TheVariants as finish
use Rattle.cmd_folder.proofs.TurnLaws.{turn_prints, step_behind, link_behind, print_behind}
use Rattle.cmd_folder.specs.RunProgram.{TurnAndState, IsPossibleTurn, FindsMemory}
use Rattle.cmd_folder.proofs.Serving.{print_over}
use Rattle.cmd_make.specs.declared.running.AfterTurn.{AfterTurn}
use Rattle.cmd_make.specs.declared.running.AfterTurn.TheVariants as after
use Rattle.cmd_make.specs.QuietRun.{RunSummary, summary_of_run, after_service, continue_after_service, serve_event, serve, run_from}
use Rattle.cmd_make.specs.RunSays.{IsRestOf, rest_from_step, rest_from_service, TurnResult, MatchesNextEvent}

-- the program of what follows a step
abbrev served : Library → ℕ → ℕ → Booted → Program quiet RunSummary
served lib taken left b = serve lib taken (λ b. run_from lib taken left b) b

-- the program after a step, by what is next
abbrev served_by : NextEvent → Library → ℕ → ℕ → Booted → Program quiet RunSummary
served_by next_event lib taken left b = serve_event next_event lib taken (λ b. run_from lib taken left b) b

-- the program after a service, by what is next
abbrev then_by : NextEvent → Library → ℕ → ℕ → Booted → Program quiet RunSummary
then_by next_event lib taken left b = after_service next_event taken (λ b. run_from lib taken left b) b

serve_is :
    (next_event : NextEvent) (lib : Library) (taken left : ℕ) (b : Booted)
    → b.next_event ≡ next_event → served lib taken left b ≡ served_by next_event lib taken left b
unfolding serve
serve_is next_event lib taken left b is = ap (λ c. served_by c lib taken left b) is

-- ---- a turn goes as the program says

link_as :
    (lib : Library) (taken left : ℕ) (b later : Booted) (note : LinkNoteFields) (at : AtFields)
    → b.next_event ≡ Link at → IsTurn lib b (turn.Linked note) later
    → IsRestOf (then_by later.next_event lib taken left later) (served lib taken left b)
link_as lib taken left b later note at is turns result goes =
    let made : TurnAndState = record { turn = turn.Linked note; after = later } in
    let go = continue_after_service taken (λ b. run_from lib taken left b) in
    subst (λ p. Goes p [] result) (sym (serve_is (Link at) lib taken left b is))
    (goes_wants (some (FindsMemory lib b) go) [] result
    (goes_some (FindsMemory lib b) go made [] result (record { is = turns; found = λ e. cc }) goes))

print_as :
    (lib : Library) (taken left : ℕ) (b later : Booted) (told : Turn)
    → b.next_event ≡ Print → IsTurn lib b told later
    → IsRestOf (then_by later.next_event lib taken left later) (served lib taken left b)
print_as lib taken left b later told is turns result goes =
    let made : TurnAndState = record { turn = told; after = later } in
    let go = continue_after_service taken (λ b. run_from lib taken left b) in
    subst (λ p. Goes p [] result) (sym (serve_is Print lib taken left b is))
    (goes_some (IsPossibleTurn lib b) go made [] result turns goes)

step_as :
    (lib : Library) (taken left : ℕ) (b later : Booted) (told : Turn)
    → IsTurn lib b told later → IsRestOf (served lib taken left later) (rest_from_step lib b taken left)
step_as lib taken left b later told turns result goes =
    goes_some (IsPossibleTurn lib b) (λ made. served lib taken left made.after)
    (record { turn = told; after = later }) [] result turns goes

-- ---- by what is next after it

then_next :
    (lib : Library) (taken left : ℕ) (b later : Booted)
    → later.next_event ≡ Step → IsRestOf (then_by later.next_event lib taken left later) (served lib taken left b)
    → IsRestOf (run_from lib taken left later) (served lib taken left b)
then_next lib taken left b later is on result goes =
    on result (subst (λ c. Goes (then_by c lib taken left later) [] result) (sym is) goes)

then_over :
    (lib : Library) (taken left : ℕ) (b later : Booted) (e : End)
    → later.next_event ≡ Over e → IsRestOf (then_by later.next_event lib taken left later) (served lib taken left b)
    → Goes (served lib taken left b) [] (Ok (summary_of_run (finish.Over e) taken later))
then_over lib taken left b later e is on =
    let result : Result RunSummary Status = Ok (summary_of_run (finish.Over e) taken later) in
    on result (subst (λ c. Goes (then_by c lib taken left later) [] result) (sym is)
    (goes_done quiet (summary_of_run (finish.Over e) taken later)))

-- ---- services

pub serve_none : (s : SuperFields) → s.next_event ≡ Step → TurnResult after.Next s.lib (rest_from_service s.lib (booted_of s)) s
serve_none s is = record {
  leads = λ taken left result goes.
      subst (λ p. Goes p [] result) (sym (serve_is Step s.lib taken left (booted_of s) is)) goes;
  next = is;
  same = refl;
}

pub serve_over :
    (s : SuperFields) (e : End) → s.next_event ≡ Over e
    → TurnResult (after.Ended e) s.lib (rest_from_service s.lib (booted_of s)) s
serve_over s e is = record {
  goes = λ taken left.
      subst (λ p. Goes p [] (Ok (summary_of_run (finish.Over e) taken (booted_of s))))
      (sym (serve_is (Over e) s.lib taken left (booted_of s) is))
      (goes_done quiet (summary_of_run (finish.Over e) taken (booted_of s)));
}

pub link_starves :
    (before later : SuperFields) (at : AtFields)
    → before.next_event ≡ Link at → TurnResult after.NoMemory before.lib (rest_from_service before.lib (booted_of before)) later
link_starves before later at is = record {
  goes = λ taken left.
      subst (λ p. Goes p [] (Err NoMemory)) (sym (serve_is (Link at) before.lib taken left (booted_of before) is))
      (goes_no_memory (some (FindsMemory before.lib (booted_of before))
      (continue_after_service taken (λ b. run_from before.lib taken left b))));
}

pub link_goes :
    (p : AfterTurn) (before later : SuperFields) (note : LinkNoteFields) (at : AtFields)
    → before.next_event ≡ Link at → SuperTurns before (turn.Linked note) later → MatchesNextEvent p later.next_event
    → TurnResult p before.lib (rest_from_service before.lib (booted_of before)) later
link_goes after.Next before later note at is turns next = record {
  leads = λ taken left.
      then_next before.lib taken left (booted_of before) (booted_of later) next
      (link_as before.lib taken left (booted_of before) (booted_of later) note at is turns.0);
  next = next;
  same = turns.1;
}
link_goes (after.Ended e) before later note at is turns next = record {
  goes = λ taken left.
      then_over before.lib taken left (booted_of before) (booted_of later) e next
      (link_as before.lib taken left (booted_of before) (booted_of later) note at is turns.0);
}
link_goes after.NoMemory before later note at is turns next = absurd next

pub print_goes :
    (before later : SuperFields) (told : List ℕ)
    → before.next_event ≡ Print → SuperTurns before (turn.Console told) later
    → TurnResult after.Next before.lib (rest_from_service before.lib (booted_of before)) later
print_goes before later told is turns =
    let next : later.next_event ≡ Step = print_behind before later told is turns in record {
      leads = λ taken left.
          then_next before.lib taken left (booted_of before) (booted_of later) next
          (print_as before.lib taken left (booted_of before) (booted_of later) (turn.Console told) is turns.0);
      next = next;
      same = turns.1;
    }

pub print_ends :
    (before later : SuperFields) (e : End)
    → before.next_event ≡ Print → SuperTurns before (turn.Ended e) later
    → TurnResult (after.Ended e) before.lib (rest_from_service before.lib (booted_of before)) later
print_ends before later e is turns = record {
  goes = λ taken left.
      then_over before.lib taken left (booted_of before) (booted_of later) e
      (print_over before.lib (booted_of before) e (booted_of later) is turns.0)
      (print_as before.lib taken left (booted_of before) (booted_of later) (turn.Ended e) is turns.0);
}

pub ruleset services =
    (turn_prints, link_behind, serve_none, serve_over, link_starves, link_goes, print_goes, print_ends)

-- ---- a step, and then a service

step_on :
    (p : AfterTurn) (lib : Library) (b : Booted) (mid later : SuperFields) (told : StepRecord)
    → IsTurn lib b (turn.Stepped told) (booted_of mid) → TurnResult p lib (rest_from_service lib (booted_of mid)) later
    → TurnResult p lib (rest_from_step lib b) later
step_on after.Next lib b mid later told turns says = record {
  leads = λ taken left result goes.
      step_as lib taken left b (booted_of mid) (turn.Stepped told) turns result (says.leads taken left result goes);
  next = says.next;
  same = says.same;
}
step_on (after.Ended e) lib b mid later told turns says = record {
  goes = λ taken left. step_as lib taken left b (booted_of mid) (turn.Stepped told) turns _ (says.goes taken left);
}
step_on after.NoMemory lib b mid later told turns says = record {
  goes = λ taken left. step_as lib taken left b (booted_of mid) (turn.Stepped told) turns _ (says.goes taken left);
}

pub step_goes :
    (p : AfterTurn) (before mid later : SuperFields) (told : StepRecord)
    → SuperTurns before (turn.Stepped told) mid → TurnResult p mid.lib (rest_from_service mid.lib (booted_of mid)) later
    → TurnResult p before.lib (rest_from_step before.lib (booted_of before)) later
step_goes p before mid later told turns says =
    step_on p before.lib (booted_of before) mid later told turns.0
    (subst (λ l. TurnResult p l (rest_from_service l (booted_of mid)) later) turns.1 says)

-- ---- steps one after another

hurried_step :
    (lib : Library) (taken left : ℕ) (b later : Booted) (told : Turn)
    → IsTurn lib b told later → later.next_event ≡ Step
    → IsRestOf (run_from lib (taken + 1) left later) (run_from lib taken (suc left) b)
unfolding run_from
hurried_step lib taken left b later told turns next result goes =
    step_as lib (taken + 1) left b later told turns result
    (subst (λ p. Goes p [] result) (sym (serve_is Step lib (taken + 1) left later next)) goes)

hurried_turns :
    (lib : Library) (turns : List Turn) (taken left : ℕ) (b last : Booted)
    → b.next_event ≡ Step → AreTurns lib b turns last → Each IsStepWithNext turns
    → IsRestOf (run_from lib (taken + length turns) left last) (run_from lib taken (length turns + left) b)
unfolding AreTurns
hurried_turns lib [] taken left b last next are each result goes =
    let e : taken + 0 ≡ taken = omega arith in
    let f : left ≡ 0 + left = omega arith in
    subst (λ p. Goes p [] result) (λ i. run_from lib (e i) (f i) (are i)) goes
hurried_turns lib (turn ∷ turns) taken left b last next are each result goes =
    let mid = are.0 in
    let then_step : mid.next_event ≡ Step = step_behind lib b turn mid next are.1 each.0 in
    let e : taken + suc (length turns) ≡ (taken + 1) + length turns = omega arith in
    let f : suc (length turns + left) ≡ suc (length turns) + left = omega arith in
    let rest = hurried_turns lib turns (taken + 1) left mid last then_step are.2 each.1 result
    (subst (λ n. Goes (run_from lib n left last) [] result) e goes) in
    subst (λ n. Goes (run_from lib taken n b) [] result) f
    (hurried_step lib taken (length turns + left) b mid turn are.1 then_step result rest)

pub hurried_goes :
    (lib : Library) (n taken left : ℕ) (before last : Booted)
    → before.next_event ≡ Step → AreStepsWithNext lib before n last
    → IsRestOf (run_from lib (taken + n) left last) (run_from lib taken (n + left) before)
hurried_goes lib n taken left before last next steps =
    subst (λ n. IsRestOf (run_from lib (taken + n) left last) (run_from lib taken (n + left) before)) steps.count
    (hurried_turns lib steps.turns taken left before last next steps.are steps.each)

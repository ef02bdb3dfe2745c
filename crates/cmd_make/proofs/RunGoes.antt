-- The program of a quiet run has no events. If it gives a value, its turns are those of a booted run that ended.
use Rattle.std.proofs.Common.{◌≡◌, ◌≢◌, ◌⊎◌, ℕ, zero, suc, ◌+◌, Bool, true, false, List, [], ◌∷◌, Result, Ok, Err, refl}
use Rattle.std.proofs.Common.{sym, ap, subst, ◌∙◌, inl, inr, arith, add-zero}
use Rattle.m36_world.specs.declared.event.Event.{Event}
use Rattle.m36_model.specs.Fields.{AtFields}
use Rattle.m36_model.specs.declared.endings.End.{End}
use Rattle.m36_model.specs.declared.endings.End.TheVariants as end
use Rattle.m36_model.specs.declared.outcome.Fault.{Fault}
use Rattle.m36_link.specs.Snap.{snap_of}
use Rattle.m36_step.specs.declared.turns.Turn.{Turn}
use Rattle.m36_step.specs.declared.turns.Turn.TheVariants as turn
use Rattle.m36_super.specs.Library.{Library}
use Rattle.m36_super.specs.declared.next_event.NextEvent.{NextEvent}
use Rattle.m36_super.specs.declared.next_event.NextEvent.TheVariants.{Step, Link, Print}
use Rattle.m36_super.specs.declared.next_event.NextEvent.TheVariants as next_event
use Rattle.m36_super.specs.BootedRun.{Booted, IsConsoleTurn, IsTurnBy, IsTurn}
use Rattle.m36_super.specs.SuperTurn.{IsNoService}
use Rattle.m36_status.specs.declared.status.Status.{Status}
use Rattle.m36_status.specs.declared.status.Status.TheVariants.{NoMemory}
use Rattle.m36_program.specs.Goes.{Ends, Goes}
use Rattle.m36_program.specs.Program.{quiet, Program}
use Rattle.cmd_folder.specs.declared.finish.Finish.{Finish}
use Rattle.cmd_folder.specs.declared.finish.Finish.TheVariants.{Over, Limit}
use Rattle.cmd_folder.specs.RunText.{turn_step_count, turns_step_count}
use Rattle.cmd_folder.specs.Runs.{IsEvent, Finishes}
use Rattle.cmd_folder.specs.Runs as runs
use Rattle.cmd_folder.proofs.RunGoes.{stay, turn_first, is_step, step_event, step_counts, IsServiceMade, linked_made, PrintEnded}
use Rattle.cmd_folder.proofs.RunGoes.{over_turn}
use Rattle.cmd_folder.proofs.TurnLaws.{ended_leaves}
use Rattle.cmd_make.specs.QuietRun.{RunSummary, summary_of_run, after_service, serve_event, serve, run_from}

-- The run ended, after these turns.
pub record HasRun (lib : Library) (taken left : ℕ) (b : Booted) (r : RunSummary) : Type 0 where
  pub turns : List Turn
  pub last : Booted
  pub made : runs.Goes lib left b turns last
  pub finishes : Finishes r.how lib left turns last
  pub steps : r.steps ≡ taken + turns_step_count turns
  pub regs : r.regs ≡ last.state.regs

-- The run ended, or memory ran out.
abbrev pub RunBy : Library → ℕ → ℕ → Booted → Result RunSummary Status → Type 0
RunBy lib taken left b (Ok r) = HasRun lib taken left b r
RunBy lib taken left b (Err s) = s ≡ NoMemory

-- The program of a run had no events, and one of these results.
pub record RunGoes (lib : Library) (taken left : ℕ) (b : Booted) (events : List Event)
    (result : Result RunSummary Status) : Type 0 where
  pub none : events ≡ []
  pub run : RunBy lib taken left b result

-- ---- no turn

-- a run that ends here
ends_here :
    (lib : Library) (taken left : ℕ) (b later : Booted) (how : Finish) (events : List Event)
    (result : Result RunSummary Status)
    → Finishes how lib left [] b → later.state.regs ≡ b.state.regs
    → Ends (Ok (summary_of_run how taken later)) events result → RunGoes lib taken left b events result
unfolding turns_step_count
ends_here lib taken left b later how events result finishes regs goes = record {
  none = goes.none;
  run = subst (λ r. RunBy lib taken left b r) (sym goes.result_is) (record {
    turns = [];
    last = b;
    made = stay lib left b;
    finishes = finishes;
    steps = sym (add-zero taken);
    regs = regs;
  });
}

-- ---- a turn, and then the rest

finishes_on :
    (how : Finish) (lib : Library) (left all : ℕ) (told : Turn) (turns : List Turn) (last : Booted)
    → all ≡ turn_step_count told + left → Finishes how lib left turns last → Finishes how lib all (told ∷ turns) last
unfolding turns_step_count
finishes_on (Over e) lib left all told turns last is finishes = finishes
finishes_on Limit lib left all told turns last is finishes =
    (ap (λ n. turn_step_count told + n) finishes.0 ∙ sym is, finishes.1)

run_first :
    (lib : Library) (taken now left all : ℕ) (b after : Booted) (told : Turn) (result : Result RunSummary Status)
    → IsTurn lib b told after → IsEvent told → all ≡ turn_step_count told + left → now ≡ taken + turn_step_count told
    → RunBy lib now left after result → RunBy lib taken all b result
unfolding turns_step_count
run_first lib taken now left all b after told (Ok r) is event all_is now_is run =
    let steps = turns_step_count run.turns in
    let count : now + steps ≡ taken + (turn_step_count told + steps) = omega (arith, now_is) in
    record {
      turns = told ∷ run.turns;
      last = run.last;
      made = turn_first lib left all b after run.last told run.turns is event all_is run.made;
      finishes = finishes_on r.how lib left all told run.turns run.last all_is run.finishes;
      steps = run.steps ∙ count;
      regs = run.regs;
    }
run_first lib taken now left all b after told (Err s) is event all_is now_is memory = memory

turn_goes :
    (lib : Library) (taken now left all : ℕ) (b after : Booted) (told : Turn) (events : List Event)
    (result : Result RunSummary Status)
    → IsTurn lib b told after → IsEvent told → all ≡ turn_step_count told + left → now ≡ taken + turn_step_count told
    → RunGoes lib now left after events result → RunGoes lib taken all b events result
turn_goes lib taken now left all b after told events result is event all_is now_is goes = record {
  none = goes.none;
  run = run_first lib taken now left all b after told result is event all_is now_is goes.run;
}

-- ---- services

-- A console service was made and a step follows, or the run has ended.
abbrev pub PrintMade : Turn → NextEvent → Type 0
PrintMade told next = IsServiceMade told next ⊎ ((e : End) × PrintEnded e told next)

printed :
    (text : List ℕ) (told : Turn) (next : NextEvent) → told ≡ turn.Console text → next ≡ Step → IsServiceMade told next
printed text told next told_is next_is = record {
  event = subst IsEvent (sym told_is) tt;
  counts = ap turn_step_count told_is;
  quiet = subst IsNoService (sym next_is) tt;
}

pub print_made :
    (many : Bool) (text : Result (List ℕ) Fault) (before : Booted) (told : Turn) (after : Booted)
    → IsConsoleTurn many text before told after → PrintMade told after.next_event
print_made true text before told after is =
    inr (end.Console, record { told_is = is.0; next_is = ap (λ (r : Booted). r.next_event) is.1 })
print_made false (Err f) before told after is =
    inr (end.Fault f, record { told_is = is.0; next_is = ap (λ (r : Booted). r.next_event) is.1 })
print_made false (Ok text) before told after is =
    inl (printed text told after.next_event is.0 (ap (λ (r : Booted). r.next_event) is.1))

-- The program that follows a step or a service goes as a run.
abbrev RestGoes : Library → ℕ → ℕ → Type 0
RestGoes lib taken left =
    (b : Booted) (events : List Event) (result : Result RunSummary Status)
    → b.next_event ≡ Step → Goes (run_from lib taken left b) events result → RunGoes lib taken left b events result

abbrev pub then_by : NextEvent → Library → ℕ → ℕ → Booted → Program quiet RunSummary
then_by next lib taken left b = after_service next taken (λ b. run_from lib taken left b) b

abbrev pub served_by : NextEvent → Library → ℕ → ℕ → Booted → Program quiet RunSummary
served_by next lib taken left b = serve_event next lib taken (λ b. run_from lib taken left b) b

-- what follows a service
after_goes :
    (next : NextEvent) (lib : Library) (taken left : ℕ) (b : Booted) (events : List Event) (result : Result RunSummary Status)
    → RestGoes lib taken left → IsNoService next → b.next_event ≡ next
    → Goes (then_by next lib taken left b) events result → RunGoes lib taken left b events result
unfolding Goes
after_goes Step lib taken left b events result on silent is goes = on b events result is goes
after_goes (Link at) lib taken left b events result on silent is goes = absurd silent
after_goes Print lib taken left b events result on silent is goes = absurd silent
after_goes (next_event.Over e) lib taken left b events result on silent is goes =
    ends_here lib taken left b b (Over e) events result (b, over_turn lib b e is) refl goes

-- a service was made
service_goes :
    (lib : Library) (taken left : ℕ) (b after : Booted) (told : Turn) (events : List Event) (result : Result RunSummary Status)
    → RestGoes lib taken left → IsTurn lib b told after → IsServiceMade told after.next_event
    → Goes (then_by after.next_event lib taken left after) events result → RunGoes lib taken left b events result
service_goes lib taken left b after told events result on is made goes =
    let none = made.counts in
    turn_goes lib taken taken left left b after told events result is made.event (omega (arith, none))
    (omega (arith, none))
    (after_goes after.next_event lib taken left after events result on made.quiet refl goes)

print_goes :
    (lib : Library) (taken left : ℕ) (b after : Booted) (told : Turn) (events : List Event) (result : Result RunSummary Status)
    → RestGoes lib taken left → IsTurn lib b told after → PrintMade told after.next_event
    → Goes (then_by after.next_event lib taken left after) events result → RunGoes lib taken left b events result
unfolding Goes
print_goes lib taken left b after told events result on is (inl made) goes =
    service_goes lib taken left b after told events result on is made goes
print_goes lib taken left b after told events result on is (inr over) goes =
    let e = over.0 in
    let ended : IsTurn lib b (turn.Ended e) after = subst (λ t. IsTurn lib b t after) over.1.told_is is in
    let so : Goes (then_by (next_event.Over e) lib taken left after) events result =
    subst (λ c. Goes (then_by c lib taken left after) events result) over.1.next_is goes in
    ends_here lib taken left b after (Over e) events result (after, ended) (ended_leaves lib b e after ended) so

-- memory ran out for a link service
no_memory_here :
    (lib : Library) (taken left : ℕ) (b : Booted) (events : List Event) (result : Result RunSummary Status)
    → Ends (Err NoMemory) events result → RunGoes lib taken left b events result
no_memory_here lib taken left b events result ends = record {
  none = ends.none;
  run = subst (λ r. RunBy lib taken left b r) (sym ends.result_is) refl;
}

link_goes :
    (lib : Library) (taken left : ℕ) (b : Booted) (at : AtFields) (events : List Event) (result : Result RunSummary Status)
    → RestGoes lib taken left → b.next_event ≡ Link at
    → Goes (served_by (Link at) lib taken left b) events result → RunGoes lib taken left b events result
unfolding Goes IsTurn
link_goes lib taken left b at events result on is (inl goes) =
    let turns : IsTurnBy (Link at) lib b goes.value.turn goes.value.after =
    subst (λ c. IsTurnBy c lib b goes.value.turn goes.value.after) is goes.is.is in
    service_goes lib taken left b goes.value.after goes.value.turn events result on goes.is.is
    (linked_made (snap_of b.known lib.catalog lib.files at) lib.catalog.frames at b goes.value.turn goes.value.after
    turns goes.is.found)
    goes.rest
link_goes lib taken left b at events result on is (inr ends) =
    no_memory_here lib taken left b events result ends

print_serves :
    (lib : Library) (taken left : ℕ) (b : Booted) (events : List Event) (result : Result RunSummary Status)
    → RestGoes lib taken left → b.next_event ≡ Print
    → Goes (served_by Print lib taken left b) events result → RunGoes lib taken left b events result
unfolding Goes IsTurn
print_serves lib taken left b events result on is goes =
    let turns : IsTurnBy Print lib b goes.value.turn goes.value.after =
    subst (λ c. IsTurnBy c lib b goes.value.turn goes.value.after) is goes.is in
    print_goes lib taken left b goes.value.after goes.value.turn events result on goes.is
    (print_made _ _ b goes.value.turn goes.value.after turns) goes.rest

serves_by :
    (next : NextEvent) (lib : Library) (taken left : ℕ) (b : Booted) (events : List Event) (result : Result RunSummary Status)
    → RestGoes lib taken left → b.next_event ≡ next
    → Goes (served_by next lib taken left b) events result → RunGoes lib taken left b events result
unfolding Goes
serves_by Step lib taken left b events result on is goes = on b events result is goes
serves_by (Link at) lib taken left b events result on is goes = link_goes lib taken left b at events result on is goes
serves_by Print lib taken left b events result on is goes = print_serves lib taken left b events result on is goes
serves_by (next_event.Over e) lib taken left b events result on is goes =
    ends_here lib taken left b b (Over e) events result (b, over_turn lib b e is) refl goes

serve_goes :
    (lib : Library) (taken left : ℕ) (b : Booted) (events : List Event) (result : Result RunSummary Status)
    → RestGoes lib taken left → Goes (serve lib taken (λ b. run_from lib taken left b) b) events result
    → RunGoes lib taken left b events result
unfolding serve
serve_goes lib taken left b events result on goes = serves_by b.next_event lib taken left b events result on refl goes

-- ---- the run

step_goes :
    (lib : Library) (taken left : ℕ) (b after : Booted) (told : Turn) (events : List Event) (result : Result RunSummary Status)
    → RestGoes lib (taken + 1) left → b.next_event ≡ Step → IsTurn lib b told after
    → Goes (serve lib (taken + 1) (λ b. run_from lib (taken + 1) left b) after) events result
    → RunGoes lib taken (suc left) b events result
step_goes lib taken left b after told events result on next is goes =
    let step = is_step lib b after told next is in
    let one = step_counts told step in
    turn_goes lib taken (taken + 1) left (suc left) b after told events result is (step_event told step)
    (omega (arith, one)) (omega (arith, one))
    (serve_goes lib (taken + 1) left after events result on goes)

pub run_goes : (lib : Library) (left taken : ℕ) → RestGoes lib taken left
unfolding Goes run_from turns_step_count
run_goes lib zero taken b events result next goes = ends_here lib taken 0 b b Limit events result (refl, next) refl goes
run_goes lib (suc left) taken b events result next goes =
    step_goes lib taken left b goes.value.after goes.value.turn events result
    (run_goes lib left (taken + 1)) next goes.is goes.rest

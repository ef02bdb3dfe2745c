-- The events of the program of a booted run: they put what is written of the turns and the end of some booted run.
use Rattle.std.proofs.Common.{◌≡◌, ◌≢◌, ◌⊎◌, ℕ, zero, suc, ◌+◌, Bool, true, false, List, [], ◌∷◌, ◌++◌, Option, Some}
use Rattle.std.proofs.Common.{None, Result, Ok, Err, refl, sym, ap, subst, ◌∙◌, inl, inr, arith, append_assoc, add-zero}
use Rattle.std.proofs.lemmas.List.{append-nil}
use Rattle.m36_world.specs.declared.event.Event.{Event}
use Rattle.m36_model.specs.Fields.{AtFields}
use Rattle.m36_model.specs.declared.endings.End.{End}
use Rattle.m36_model.specs.declared.endings.End.TheVariants as end
use Rattle.m36_model.specs.declared.outcome.Fault.{Fault}
use Rattle.m36_link.specs.Fields.{SnapFields}
use Rattle.m36_link.specs.Snap.{RefusedFields, snap_of}
use Rattle.m36_step.specs.declared.turns.Turn.{Turn}
use Rattle.m36_step.specs.declared.turns.Turn.TheVariants as turn
use Rattle.m36_super.specs.Library.{Library}
use Rattle.m36_super.specs.declared.next_event.NextEvent.{NextEvent}
use Rattle.m36_super.specs.declared.next_event.NextEvent.TheVariants.{Step, Link, Print}
use Rattle.m36_super.specs.declared.next_event.NextEvent.TheVariants as next_event
use Rattle.m36_super.specs.BootedRun.{Booted, IsLinkTurn, IsConsoleTurn, IsTurnBy, IsTurn, AreTurns}
use Rattle.m36_super.specs.SuperTurn.{IsNoService, link_quiet}
use Rattle.m36_status.specs.declared.status.Status.{Status}
use Rattle.m36_status.specs.declared.status.Status.TheVariants.{NoMemory}
use Rattle.m36_program.specs.Goes.{Ends, Goes}
use Rattle.m36_program.specs.Program.{quiet, Program, puts_all}
use Rattle.m36_program.specs.MayHappen as trail
use Rattle.m36_program.proofs.PieceLaws.{PutsBy, puts_ended}
use Rattle.cmd_folder.specs.declared.finish.Finish.{Finish}
use Rattle.cmd_folder.specs.declared.finish.Finish.TheVariants.{Over, Limit}
use Rattle.cmd_folder.specs.RunText.{turn_step_count, turns_step_count, pieces_of_turn, pieces_of_turns, end_pieces, run_pieces, finish_status}
use Rattle.cmd_folder.specs.Runs.{IsEvent, Finishes, AwaitsLink}
use Rattle.cmd_folder.specs.Runs as runs
use Rattle.cmd_folder.proofs.TurnLaws.{IsStep, IsLink, step_is}
use Rattle.cmd_folder.specs.IsBootedRun.{FinishesAs, StopsAs, IsBootedRun}
use Rattle.cmd_folder.specs.RunProgram.{RunContext, finish_may_end, put_run_end, after_service, continue_after_service, serve_event, serve}
use Rattle.cmd_folder.specs.RunProgram.{run_from}
use Rattle.cmd_folder.proofs.PutsSplit.{pieces_all, PutsSplit, puts_split}
use Rattle.cmd_folder.proofs.Serving.{ended_pieces}

-- the pieces of turns and of an end; `taken` steps were taken before them
abbrev pub written : RunContext → ℕ → List Turn → Option Finish → List (List ℕ)
written run taken turns how = pieces_of_turns run.output taken turns ++ end_pieces run.denied how (taken + turns_step_count turns)

-- The events are those of a run from state b, up to its finish or to where the call stopped. `taken` steps were taken
-- before b, and at most `left` follow.
pub record RunGoes (run : RunContext) (taken left : ℕ) (b : Booted) (events : List Event)
    (result : Result (Unit {0}) Status) : Type 0 where
  pub turns : List Turn
  pub last : Booted
  pub how : Option Finish
  pub goes : runs.Goes run.lib left b turns last
  pub finishes : FinishesAs how run.lib left turns last
  pub unput : List (List ℕ)
  pub pieces : written run taken turns how ≡ trail.pieces_of events ++ unput
  pub stops : StopsAs how last unput result

-- before which no step was taken
pub from_start :
    (run : RunContext) (turns : List Turn) (how : Option Finish)
    → written run 0 turns how ≡ run_pieces run.denied run.output turns how
unfolding run_pieces
from_start run turns how =
    let none : 0 + turns_step_count turns ≡ turns_step_count turns = omega arith in
    ap (λ n. pieces_of_turns run.output 0 turns ++ end_pieces run.denied how n) none

-- ---- no turn

pub no_turns :
    (run : RunContext) (taken : ℕ) (how : Option Finish) → written run taken [] how ≡ end_pieces run.denied how taken
unfolding pieces_of_turns turns_step_count
no_turns run taken how = ap (λ n. end_pieces run.denied how n) (add-zero taken)

pub stay : (lib : Library) (left : ℕ) (b : Booted) → runs.Goes lib left b [] b
unfolding AreTurns turns_step_count
stay lib left b = record { turns_are = refl; events = tt; few = omega arith }

ended_by :
    (run : RunContext) (taken left : ℕ) (b : Booted) (how : Finish) (events : List Event)
    (result : Result (Unit {0}) Status)
    → Finishes how run.lib left [] b → PutsBy (end_pieces run.denied (Some how) taken)
    (finish_status (Some how)) events result
    → RunGoes run taken left b events result
ended_by run taken left b how events result finishes (inl whole) =
    let pieces = end_pieces run.denied (Some how) taken in record {
      turns = [];
      last = b;
      how = Some how;
      goes = stay run.lib left b;
      finishes = finishes;
      unput = [];
      pieces = no_turns run taken (Some how)
          ∙ sym (append-nil (trail.pieces_of events) ∙ pieces_all pieces events whole.events_are);
      stops = inl (refl, whole.result_is);
    }
ended_by run taken left b how events result finishes (inr part) = record {
  turns = [];
  last = b;
  how = Some how;
  goes = stay run.lib left b;
  finishes = finishes;
  unput = part.left;
  pieces = no_turns run taken (Some how) ∙ part.is;
  stops = inr part.result_is;
}

-- a run that ends here
ends_here :
    (run : RunContext) (taken left : ℕ) (b : Booted) (how : Finish) (events : List Event)
    (result : Result (Unit {0}) Status)
    → Finishes how run.lib left [] b → Goes (put_run_end run taken how) events result
    → RunGoes run taken left b events result
unfolding put_run_end
ends_here run taken left b how events result finishes goes =
    ended_by run taken left b how events result finishes
    (puts_ended quiet (end_pieces run.denied (Some how) taken) (finish_status (Some how)) (finish_may_end how)
    events result goes)

puts_nothing :
    (rest : Program quiet (Unit {0})) (events : List Event) (result : Result (Unit {0}) Status)
    → Goes (puts_all [] rest) events result → Goes rest events result
unfolding puts_all
puts_nothing rest events result goes = goes

-- ---- a turn, and then the rest

finishes_on :
    (how : Option Finish) (lib : Library) (left all : ℕ) (told : Turn) (turns : List Turn) (last : Booted)
    → all ≡ turn_step_count told + left → FinishesAs how lib left turns last → FinishesAs how lib all (told ∷ turns) last
unfolding turns_step_count
finishes_on None lib left all told turns last is finishes = tt
finishes_on (Some (Over e)) lib left all told turns last is finishes = finishes
finishes_on (Some Limit) lib left all told turns last is finishes =
    (ap (λ n. turn_step_count told + n) finishes.0 ∙ sym is, finishes.1)

pub turn_first :
    (lib : Library) (left all : ℕ) (b after last : Booted) (told : Turn) (turns : List Turn)
    → IsTurn lib b told after → IsEvent told → all ≡ turn_step_count told + left → runs.Goes lib left after turns last
    → runs.Goes lib all b (told ∷ turns) last
unfolding AreTurns turns_step_count
turn_first lib left all b after last told turns is event all_is goes = record {
  turns_are = (after, is, goes.turns_are);
  events = (event, goes.events);
  few = omega (arith, all_is, goes.few);
}

pub turn_written :
    (run : RunContext) (taken now : ℕ) (told : Turn) (turns : List Turn) (how : Option Finish)
    → now ≡ taken + turn_step_count told
    → written run taken (told ∷ turns) how ≡ pieces_of_turn run.output taken told ++ written run now turns how
unfolding pieces_of_turns turns_step_count
turn_written run taken now told turns how is =
    let count : taken + (turn_step_count told + turns_step_count turns) ≡ now + turns_step_count turns = omega (arith, is) in
    ap (λ n. pieces_of_turns run.output taken (told ∷ turns) ++ end_pieces run.denied how n) count
    ∙ append_assoc (pieces_of_turn run.output taken told) (pieces_of_turns run.output (taken + turn_step_count told) turns)
    (end_pieces run.denied how (now + turns_step_count turns))
    ∙ ap (λ n. pieces_of_turn run.output taken told ++
    (pieces_of_turns run.output n turns ++ end_pieces run.denied how (now + turns_step_count turns)))
    (sym is)

turn_goes :
    (run : RunContext) (taken now left all : ℕ) (b after : Booted) (told : Turn) (rest : Program quiet (Unit {0}))
    (events : List Event)
    (result : Result (Unit {0}) Status)
    → IsTurn run.lib b told after → IsEvent told → all ≡ turn_step_count told + left → now ≡ taken + turn_step_count told
    → ((more : List Event) → Goes rest more result → RunGoes run now left after more result)
    → PutsSplit (pieces_of_turn run.output taken told) rest events result
    → RunGoes run taken all b events result
turn_goes run taken now left all b after told rest events result is event all_is now_is on (inl then) =
    let more = on then.more then.goes in
    let pieces = pieces_of_turn run.output taken told in record {
      turns = told ∷ more.turns;
      last = more.last;
      how = more.how;
      goes = turn_first run.lib left all b after more.last told more.turns is event all_is more.goes;
      finishes = finishes_on more.how run.lib left all told more.turns more.last all_is more.finishes;
      unput = more.unput;
      pieces = turn_written run taken now told more.turns more.how now_is
          ∙ ap (λ l. pieces ++ l) more.pieces
          ∙ sym (append_assoc pieces (trail.pieces_of then.more) more.unput)
          ∙ ap (λ l. l ++ more.unput) (sym then.is);
      stops = more.stops;
    }
turn_goes run taken now left all b after told rest events result is event all_is now_is on (inr first) = record {
  turns = told ∷ [];
  last = after;
  how = None;
  goes = turn_first run.lib left all b after after told [] is event all_is (stay run.lib left after);
  finishes = tt;
  unput = first.left;
  pieces = turn_written run taken now told [] None now_is
      ∙ ap (λ l. pieces_of_turn run.output taken told ++ l) (no_turns run now None)
      ∙ append-nil (pieces_of_turn run.output taken told) ∙ first.is;
  stops = inr first.result_is;
}

-- ---- which turns there are

pub is_step : (lib : Library) (b after : Booted) (told : Turn) → b.next_event ≡ Step → IsTurn lib b told after → IsStep told
unfolding IsTurn
is_step lib b after told is turns =
    let so : IsTurnBy Step lib b told after = subst (λ c. IsTurnBy c lib b told after) is turns in
    step_is b.loaded lib.catalog.frames b told after so

pub step_event : (told : Turn) → IsStep told → IsEvent told
step_event (turn.Stepped told) is = tt
step_event (turn.Linked note) is = absurd is
step_event (turn.Console text) is = absurd is
step_event (turn.Ended e) is = absurd is
step_event turn.Full is = absurd is
step_event turn.NoMemory is = absurd is

pub step_counts : (told : Turn) → IsStep told → turn_step_count told ≡ 1
step_counts (turn.Stepped told) is = refl
step_counts (turn.Linked note) is = absurd is
step_counts (turn.Console text) is = absurd is
step_counts (turn.Ended e) is = absurd is
step_counts turn.Full is = absurd is
step_counts turn.NoMemory is = absurd is

-- A link service was performed without running out of memory, and the run continues or ends.
pub record IsServiceMade (told : Turn) (next : NextEvent) : Type 0 where
  pub event : IsEvent told
  pub counts : turn_step_count told ≡ 0
  pub quiet : IsNoService next

pub linked_made :
    (answer : Result SnapFields RefusedFields) (frames : ℕ) (at : AtFields) (before : Booted) (told : Turn)
    (after : Booted)
    → IsLinkTurn answer frames at before told after → told ≢ turn.NoMemory → IsServiceMade told after.next_event
linked_made (Ok s) frames at before (turn.Linked note) after is found =
    record { event = tt; counts = refl; quiet = link_quiet (Ok s) frames at before (turn.Linked note) after is tt }
linked_made (Ok s) frames at before turn.NoMemory after is found = absurd (found refl)
linked_made (Ok s) frames at before (turn.Stepped told) after is found = absurd (subst IsLink (sym is.told) tt)
linked_made (Ok s) frames at before (turn.Console text) after is found = absurd (subst IsLink (sym is.told) tt)
linked_made (Ok s) frames at before (turn.Ended e) after is found = absurd (subst IsLink (sym is.told) tt)
linked_made (Ok s) frames at before turn.Full after is found = absurd (subst IsLink (sym is.told) tt)
linked_made (Err why) frames at before (turn.Linked note) after is found =
    record { event = tt; counts = refl; quiet = link_quiet (Err why) frames at before (turn.Linked note) after is tt }
linked_made (Err why) frames at before turn.NoMemory after is found = absurd (found refl)
linked_made (Err why) frames at before (turn.Stepped told) after is found = absurd (subst IsLink (sym is.0) tt)
linked_made (Err why) frames at before (turn.Console text) after is found = absurd (subst IsLink (sym is.0) tt)
linked_made (Err why) frames at before (turn.Ended e) after is found = absurd (subst IsLink (sym is.0) tt)
linked_made (Err why) frames at before turn.Full after is found = absurd (subst IsLink (sym is.0) tt)

-- A console service was made and a step follows, or the run has ended.
pub record Printed (text : List ℕ) (told : Turn) (next : NextEvent) : Type 0 where
  pub told_is : told ≡ turn.Console text
  pub next_is : next ≡ Step

pub record PrintEnded (e : End) (told : Turn) (next : NextEvent) : Type 0 where
  pub told_is : told ≡ turn.Ended e
  pub next_is : next ≡ next_event.Over e

abbrev pub PrintMade : Turn → NextEvent → Type 0
PrintMade told next = ((text : List ℕ) × Printed text told next) ⊎ ((e : End) × PrintEnded e told next)

pub print_made :
    (many : Bool) (text : Result (List ℕ) Fault) (before : Booted) (told : Turn) (after : Booted)
    → IsConsoleTurn many text before told after → PrintMade told after.next_event
print_made true text before told after is =
    inr (end.Console, record { told_is = is.0; next_is = ap (λ (r : Booted). r.next_event) is.1 })
print_made false (Err f) before told after is =
    inr (end.Fault f, record { told_is = is.0; next_is = ap (λ (r : Booted). r.next_event) is.1 })
print_made false (Ok text) before told after is =
    inl (text, record { told_is = is.0; next_is = ap (λ (r : Booted). r.next_event) is.1 })

-- ---- services

-- The program that follows a step or a service goes as a run.
abbrev RestGoes : RunContext → ℕ → ℕ → Type 0
RestGoes run taken left =
    (b : Booted) (events : List Event) (result : Result (Unit {0}) Status)
    → b.next_event ≡ Step → Goes (run_from run taken left b) events result → RunGoes run taken left b events result

pub over_turn : (lib : Library) (b : Booted) (e : End) → b.next_event ≡ next_event.Over e → IsTurn lib b (turn.Ended e) b
unfolding IsTurn
over_turn lib b e is = subst (λ c. IsTurnBy c lib b (turn.Ended e) b) (sym is) (refl, refl)

-- what follows a service
after_goes :
    (next : NextEvent) (run : RunContext) (taken left : ℕ) (b : Booted) (events : List Event)
    (result : Result (Unit {0}) Status)
    → RestGoes run taken left → IsNoService next → b.next_event ≡ next
    → Goes (after_service next run taken (λ b. run_from run taken left b) b) events result
    → RunGoes run taken left b events result
after_goes Step run taken left b events result on silent is goes = on b events result is goes
after_goes (Link at) run taken left b events result on silent is goes = absurd silent
after_goes Print run taken left b events result on silent is goes = absurd silent
after_goes (next_event.Over e) run taken left b events result on silent is goes =
    ends_here run taken left b (Over e) events result (b, over_turn run.lib b e is) goes

-- a service was made
service_goes :
    (run : RunContext) (taken left : ℕ) (b after : Booted) (told : Turn) (events : List Event)
    (result : Result (Unit {0}) Status)
    → RestGoes run taken left → IsTurn run.lib b told after → IsServiceMade told after.next_event
    → Goes (puts_all (pieces_of_turn run.output taken told) (continue_after_service run taken
    (λ b. run_from run taken left b) after)) events result
    → RunGoes run taken left b events result
service_goes run taken left b after told events result on is made goes =
    let none = made.counts in
    turn_goes run taken taken left left b after told
    (continue_after_service run taken (λ b. run_from run taken left b) after) events result is made.event
    (omega (arith, none)) (omega (arith, none))
    (λ more goes. after_goes after.next_event run taken left after more result on made.quiet refl goes)
    (puts_split (pieces_of_turn run.output taken told) (continue_after_service run taken (λ b. run_from run taken left b) after)
    events result goes)

print_goes :
    (run : RunContext) (taken left : ℕ) (b after : Booted) (told : Turn) (events : List Event)
    (result : Result (Unit {0}) Status)
    → RestGoes run taken left → IsTurn run.lib b told after → PrintMade told after.next_event
    → Goes (puts_all (pieces_of_turn run.output taken told) (continue_after_service run taken
    (λ b. run_from run taken left b) after)) events result
    → RunGoes run taken left b events result
print_goes run taken left b after told events result on is (inl console_pieces_of_turn) goes =
    service_goes run taken left b after told events result on is
    (record {
      event = subst IsEvent (sym console_pieces_of_turn.1.told_is) tt;
      counts = ap turn_step_count console_pieces_of_turn.1.told_is;
      quiet = subst IsNoService (sym console_pieces_of_turn.1.next_is) tt;
    }) goes
print_goes run taken left b after told events result on is (inr ended) goes =
    let e = ended.0 in
    let over : Goes (put_run_end run taken (Over e)) events result =
    subst (λ c. Goes (after_service c run taken (λ b. run_from run taken left b) after) events result) ended.1.next_is
    (puts_nothing (continue_after_service run taken (λ b. run_from run taken left b) after) events result
    (subst (λ l. Goes (puts_all l (continue_after_service run taken (λ b. run_from run taken left b) after)) events result)
    (ap (pieces_of_turn run.output taken) ended.1.told_is ∙ ended_pieces run.output taken e) goes)) in
    ends_here run taken left b (Over e) events result
    (after, subst (λ t. IsTurn run.lib b t after) ended.1.told_is is) over

-- memory ran out for a link service
starved_here :
    (run : RunContext) (taken left : ℕ) (b : Booted) (events : List Event) (result : Result (Unit {0}) Status)
    → AwaitsLink b.next_event → Ends (Err NoMemory) events result → RunGoes run taken left b events result
starved_here run taken left b events result waits ends = record {
  turns = [];
  last = b;
  how = None;
  goes = stay run.lib left b;
  finishes = tt;
  unput = [];
  pieces = no_turns run taken None ∙ sym (ap (λ e. trail.pieces_of e ++ []) ends.none);
  stops = inl (refl, (waits, ends.result_is));
}

link_goes :
    (run : RunContext) (taken left : ℕ) (b : Booted) (at : AtFields) (events : List Event)
    (result : Result (Unit {0}) Status)
    → RestGoes run taken left → b.next_event ≡ Link at
    → Goes (serve_event (Link at) run taken (λ b. run_from run taken left b) b) events result
    → RunGoes run taken left b events result
unfolding Goes IsTurn
link_goes run taken left b at events result on is (inl goes) =
    let turns : IsTurnBy (Link at) run.lib b goes.value.turn goes.value.after =
    subst (λ c. IsTurnBy c run.lib b goes.value.turn goes.value.after) is goes.is.is in
    service_goes run taken left b goes.value.after goes.value.turn events result on goes.is.is
    (linked_made (snap_of b.known run.lib.catalog run.lib.files at) run.lib.catalog.frames at b goes.value.turn
    goes.value.after turns goes.is.found)
    goes.rest
link_goes run taken left b at events result on is (inr ends) =
    starved_here run taken left b events result (subst AwaitsLink (sym is) tt) ends

print_serves :
    (run : RunContext) (taken left : ℕ) (b : Booted) (events : List Event) (result : Result (Unit {0}) Status)
    → RestGoes run taken left → b.next_event ≡ Print
    → Goes (serve_event Print run taken (λ b. run_from run taken left b) b) events result
    → RunGoes run taken left b events result
unfolding Goes IsTurn
print_serves run taken left b events result on is goes =
    let turns : IsTurnBy Print run.lib b goes.value.turn goes.value.after =
    subst (λ c. IsTurnBy c run.lib b goes.value.turn goes.value.after) is goes.is in
    print_goes run taken left b goes.value.after goes.value.turn events result on goes.is
    (print_made _ _ b goes.value.turn goes.value.after turns) goes.rest

serves_by :
    (next : NextEvent) (run : RunContext) (taken left : ℕ) (b : Booted) (events : List Event)
    (result : Result (Unit {0}) Status)
    → RestGoes run taken left → b.next_event ≡ next
    → Goes (serve_event next run taken (λ b. run_from run taken left b) b) events result
    → RunGoes run taken left b events result
serves_by Step run taken left b events result on is goes = on b events result is goes
serves_by (Link at) run taken left b events result on is goes = link_goes run taken left b at events result on is goes
serves_by Print run taken left b events result on is goes = print_serves run taken left b events result on is goes
serves_by (next_event.Over e) run taken left b events result on is goes =
    ends_here run taken left b (Over e) events result (b, over_turn run.lib b e is) goes

serve_goes :
    (run : RunContext) (taken left : ℕ) (b : Booted) (events : List Event) (result : Result (Unit {0}) Status)
    → RestGoes run taken left → Goes (serve run taken (λ b. run_from run taken left b) b) events result
    → RunGoes run taken left b events result
unfolding serve
serve_goes run taken left b events result on goes = serves_by b.next_event run taken left b events result on refl goes

-- ---- the run

step_goes :
    (run : RunContext) (taken left : ℕ) (b after : Booted) (told : Turn) (events : List Event)
    (result : Result (Unit {0}) Status)
    → RestGoes run (taken + 1) left → b.next_event ≡ Step → IsTurn run.lib b told after
    → Goes (puts_all (pieces_of_turn run.output taken told) (serve run (taken + 1)
    (λ b. run_from run (taken + 1) left b) after)) events result
    → RunGoes run taken (suc left) b events result
step_goes run taken left b after told events result on next is goes =
    let step = is_step run.lib b after told next is in
    let one = step_counts told step in
    let rest = serve run (taken + 1) (λ b. run_from run (taken + 1) left b) after in
    turn_goes run taken (taken + 1) left (suc left) b after told rest events result is (step_event told step)
    (omega (arith, one)) (omega (arith, one))
    (λ more goes. serve_goes run (taken + 1) left after more result on goes)
    (puts_split (pieces_of_turn run.output taken told) rest events result goes)

run_goes : (run : RunContext) (left taken : ℕ) → RestGoes run taken left
unfolding Goes run_from turns_step_count
run_goes run zero taken b events result next goes = ends_here run taken 0 b Limit events result (refl, next) goes
run_goes run (suc left) taken b events result next goes =
    step_goes run taken left b goes.value.after goes.value.turn events result
    (run_goes run left (taken + 1)) next goes.is goes.rest

-- a run from its start
pub run_is :
    (run : RunContext) (limit : ℕ) (first : Booted) (events : List Event) (result : Result (Unit {0}) Status)
    → first.next_event ≡ Step → Goes (run_from run 0 limit first) events result → IsBootedRun run limit first events result
run_is run limit first events result next goes =
    let ran = run_goes run limit 0 first events result next goes in record {
      turns = ran.turns;
      last = ran.last;
      how = ran.how;
      goes = ran.goes;
      finishes = ran.finishes;
      unput = ran.unput;
      pieces = sym (from_start run ran.turns ran.how) ∙ ran.pieces;
      stops = ran.stops;
    }

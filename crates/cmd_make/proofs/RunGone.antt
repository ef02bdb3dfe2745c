-- If turns of a booted system are a run that ends, the program of a quiet run ends.
use Rattle.std.proofs.Common.{◌≡◌, ℕ, zero, suc, ◌+◌, List, [], ◌∷◌, Ok, refl, sym, subst, inl, inr, arith}
use Rattle.m36_model.specs.Fields.{AtFields}
use Rattle.m36_model.specs.StoreLaw.{Each}
use Rattle.m36_model.specs.declared.endings.End.{End}
use Rattle.m36_link.specs.Snap.{snap_of}
use Rattle.m36_step.specs.declared.turns.Turn.{Turn}
use Rattle.m36_step.specs.declared.turns.Turn.TheVariants as turn
use Rattle.m36_super.specs.Library.{Library}
use Rattle.m36_super.specs.declared.next_event.NextEvent.{NextEvent}
use Rattle.m36_super.specs.declared.next_event.NextEvent.TheVariants.{Step, Link, Print}
use Rattle.m36_super.specs.declared.next_event.NextEvent.TheVariants as next_event
use Rattle.m36_super.specs.BootedRun.{Booted, IsTurnBy, IsTurn, AreTurns}
use Rattle.m36_super.specs.SuperTurn.{IsNoService}
use Rattle.m36_program.specs.Goes.{Goes}
use Rattle.m36_program.specs.Program.{quiet, Program}
use Rattle.m36_program.proofs.Performing.{goes_done}
use Rattle.cmd_folder.specs.declared.finish.Finish.{Finish}
use Rattle.cmd_folder.specs.declared.finish.Finish.TheVariants.{Over, Limit}
use Rattle.cmd_folder.specs.RunText.{turn_step_count, turns_step_count}
use Rattle.cmd_folder.specs.Runs.{IsEvent, Finishes}
use Rattle.cmd_folder.proofs.TurnLaws.{link_is}
use Rattle.cmd_make.specs.QuietRun.{RunSummary, summary_of_run, serve, run_from}
use Rattle.cmd_folder.proofs.RunGoes.{is_step, step_counts, IsServiceMade, linked_made}
use Rattle.cmd_make.proofs.RunGoes.{PrintMade, print_made, then_by, served_by}

-- The program ends with a value, without an event.
abbrev pub Gone : Program quiet RunSummary → Type 0
Gone p = (r : RunSummary) × Goes p [] (Ok r)

-- Some turns from state b are a run that ends, with at most `left` steps.
pub record RunsOn (how : Finish) (lib : Library) (left : ℕ) (b : Booted) (turns : List Turn)
    (last : Booted) : Type 0 where
  pub are : AreTurns lib b turns last
  pub events : Each IsEvent turns
  pub finishes : Finishes how lib left turns last

-- then the program ends from a state before a step
abbrev pub Ends : Finish → Library → ℕ → ℕ → Booted → Type 0
Ends how lib taken left last =
    (b : Booted) (turns : List Turn) → b.next_event ≡ Step → RunsOn how lib left b turns last
    → Gone (run_from lib taken left b)

-- ---- the turns that are left

-- after one that counts so many steps
finishes_left :
    (how : Finish) (lib : Library) (left all : ℕ) (told : Turn) (turns : List Turn) (last : Booted)
    → all ≡ turn_step_count told + left → Finishes how lib all (told ∷ turns) last → Finishes how lib left turns last
unfolding turns_step_count
finishes_left (Over e) lib left all told turns last is finishes = finishes
finishes_left Limit lib left all told turns last is finishes =
    let steps = finishes.0 in
    let count : turns_step_count turns ≡ left = omega (arith, is, steps) in
    (count, finishes.1)

-- the first turn, and the others
pub record FirstTurn (how : Finish) (lib : Library) (all : ℕ) (b : Booted) (told : Turn) (turns : List Turn)
    (last : Booted) : Type 0 where
  pub mid : Booted
  pub is : IsTurn lib b told mid
  pub event : IsEvent told
  pub on : (left : ℕ) → all ≡ turn_step_count told + left → RunsOn how lib left mid turns last

first_turn :
    (how : Finish) (lib : Library) (all : ℕ) (b : Booted) (told : Turn) (turns : List Turn) (last : Booted)
    → RunsOn how lib all b (told ∷ turns) last → FirstTurn how lib all b told turns last
unfolding AreTurns
first_turn how lib all b told turns last runs = record {
  mid = runs.are.0;
  is = runs.are.1;
  event = runs.events.0;
  on = λ left is. record {
    are = runs.are.2;
    events = runs.events.1;
    finishes = finishes_left how lib left all told turns last is runs.finishes;
  };
}

-- no turn is left
none_left :
    (how : Finish) (lib : Library) (left : ℕ) (b last : Booted) → RunsOn how lib left b [] last
    → Finishes how lib left [] b
unfolding AreTurns
none_left how lib left b last runs = subst (λ l. Finishes how lib left [] l) runs.are runs.finishes

-- ---- after a service

after_gone :
    (next : NextEvent) (how : Finish) (lib : Library) (taken left : ℕ) (b : Booted) (turns : List Turn) (last : Booted)
    → Ends how lib taken left last → IsNoService next → b.next_event ≡ next → RunsOn how lib left b turns last
    → Gone (then_by next lib taken left b)
after_gone Step how lib taken left b turns last on silent is runs = on b turns is runs
after_gone (Link at) how lib taken left b turns last on silent is runs = absurd silent
after_gone Print how lib taken left b turns last on silent is runs = absurd silent
after_gone (next_event.Over e) how lib taken left b turns last on silent is runs =
    (summary_of_run (Over e) taken b, goes_done quiet (summary_of_run (Over e) taken b))

-- a console service that ended the run
over_gone :
    (lib : Library) (taken left : ℕ) (b : Booted) (e : End) → b.next_event ≡ next_event.Over e
    → Gone (then_by b.next_event lib taken left b)
over_gone lib taken left b e is =
    subst (λ (c : NextEvent). Gone (then_by c lib taken left b)) (sym is)
    (summary_of_run (Over e) taken b, goes_done quiet (summary_of_run (Over e) taken b))

-- ---- services

link_chosen :
    (lib : Library) (taken left : ℕ) (b mid : Booted) (told : Turn) (at : AtFields)
    → IsTurn lib b told mid → IsEvent told → Gone (then_by mid.next_event lib taken left mid)
    → Gone (served_by (Link at) lib taken left b)
unfolding Goes
link_chosen lib taken left b mid told at is event gone = (
  gone.0,
  inl (record {
    value = record { turn = told; after = mid };
    is = record { is = is; found = λ e. subst IsEvent e event };
    rest = gone.1;
  }),
)

print_chosen :
    (lib : Library) (taken left : ℕ) (b mid : Booted) (told : Turn)
    → IsTurn lib b told mid → Gone (then_by mid.next_event lib taken left mid) → Gone (served_by Print lib taken left b)
unfolding Goes
print_chosen lib taken left b mid told is gone =
    (gone.0, record { value = record { turn = told; after = mid }; is = is; rest = gone.1 })

-- No run ends before a link service.
no_end_here :
    (how : Finish) (lib : Library) (left : ℕ) (b : Booted) (at : AtFields) → b.next_event ≡ Link at
    → Finishes how lib left [] b → ⊥
unfolding IsTurn
no_end_here (Over e) lib left b at is ends =
    link_is (snap_of b.known lib.catalog lib.files at) lib.catalog.frames at b (turn.Ended e) ends.0
    (subst (λ c. IsTurnBy c lib b (turn.Ended e) ends.0) is ends.1)
no_end_here Limit lib left b at is ends = let next = ends.1 in absurd (cc)

link_gone :
    (how : Finish) (lib : Library) (taken left : ℕ) (b : Booted) (turns : List Turn) (last : Booted) (at : AtFields)
    → Ends how lib taken left last → b.next_event ≡ Link at → RunsOn how lib left b turns last
    → Gone (served_by (Link at) lib taken left b)
unfolding IsTurn
link_gone how lib taken left b [] last at on is runs =
    absurd (no_end_here how lib left b at is (none_left how lib left b last runs))
link_gone how lib taken left b (told ∷ turns) last at on is runs =
    let first = first_turn how lib left b told turns last runs in
    let made : IsServiceMade told first.mid.next_event =
    linked_made (snap_of b.known lib.catalog lib.files at) lib.catalog.frames at b told first.mid
    (subst (λ c. IsTurnBy c lib b told first.mid) is first.is) (λ e. subst IsEvent e first.event) in
    let none = made.counts in
    link_chosen lib taken left b first.mid told at first.is first.event
    (after_gone first.mid.next_event how lib taken left first.mid turns last on made.quiet refl
    (first.on left (omega (arith, none))))

print_made_by :
    (lib : Library) (b mid : Booted) (told : Turn) → b.next_event ≡ Print → IsTurn lib b told mid
    → PrintMade told mid.next_event
unfolding IsTurn
print_made_by lib b mid told is turns = print_made _ _ b told mid (subst (λ c. IsTurnBy c lib b told mid) is turns)

print_first :
    (how : Finish) (lib : Library) (taken left : ℕ) (b : Booted) (told : Turn) (turns : List Turn) (last : Booted)
    → Ends how lib taken left last → (first : FirstTurn how lib left b told turns last)
    → PrintMade told first.mid.next_event
    → Gone (then_by first.mid.next_event lib taken left first.mid)
print_first how lib taken left b told turns last on first (inl made) =
    let none = made.counts in
    after_gone first.mid.next_event how lib taken left first.mid turns last on made.quiet refl
    (first.on left (omega (arith, none)))
print_first how lib taken left b told turns last on first (inr over) =
    over_gone lib taken left first.mid over.0 over.1.next_is

print_last :
    (lib : Library) (taken left : ℕ) (after : Booted) (e : End) → PrintMade (turn.Ended e) after.next_event
    → Gone (then_by after.next_event lib taken left after)
print_last lib taken left after e (inl made) = absurd made.event
print_last lib taken left after e (inr over) = over_gone lib taken left after over.0 over.1.next_is

print_ends :
    (how : Finish) (lib : Library) (taken left : ℕ) (b : Booted) → b.next_event ≡ Print → Finishes how lib left [] b
    → Gone (served_by Print lib taken left b)
print_ends (Over e) lib taken left b is ends =
    print_chosen lib taken left b ends.0 (turn.Ended e) ends.1
    (print_last lib taken left ends.0 e (print_made_by lib b ends.0 (turn.Ended e) is ends.1))
print_ends Limit lib taken left b is ends = let next = ends.1 in absurd (cc)

print_gone :
    (how : Finish) (lib : Library) (taken left : ℕ) (b : Booted) (turns : List Turn) (last : Booted)
    → Ends how lib taken left last → b.next_event ≡ Print → RunsOn how lib left b turns last
    → Gone (served_by Print lib taken left b)
print_gone how lib taken left b [] last on is runs =
    print_ends how lib taken left b is (none_left how lib left b last runs)
print_gone how lib taken left b (told ∷ turns) last on is runs =
    let first = first_turn how lib left b told turns last runs in
    print_chosen lib taken left b first.mid told first.is
    (print_first how lib taken left b told turns last on first (print_made_by lib b first.mid told is first.is))

serves_gone :
    (next : NextEvent) (how : Finish) (lib : Library) (taken left : ℕ) (b : Booted) (turns : List Turn) (last : Booted)
    → Ends how lib taken left last → b.next_event ≡ next → RunsOn how lib left b turns last
    → Gone (served_by next lib taken left b)
serves_gone Step how lib taken left b turns last on is runs = on b turns is runs
serves_gone (Link at) how lib taken left b turns last on is runs =
    link_gone how lib taken left b turns last at on is runs
serves_gone Print how lib taken left b turns last on is runs = print_gone how lib taken left b turns last on is runs
serves_gone (next_event.Over e) how lib taken left b turns last on is runs =
    (summary_of_run (Over e) taken b, goes_done quiet (summary_of_run (Over e) taken b))

serve_gone :
    (how : Finish) (lib : Library) (taken left : ℕ) (b : Booted) (turns : List Turn) (last : Booted)
    → Ends how lib taken left last → RunsOn how lib left b turns last
    → Gone (serve lib taken (λ b. run_from lib taken left b) b)
unfolding serve
serve_gone how lib taken left b turns last on runs = serves_gone b.next_event how lib taken left b turns last on refl runs

-- ---- the run

-- No run ends before a step if one is left.
step_left :
    (how : Finish) (lib : Library) (left : ℕ) (b : Booted) → b.next_event ≡ Step → Finishes how lib (suc left) [] b → ⊥
unfolding turns_step_count
step_left (Over e) lib left b is ends = is_step lib b ends.0 (turn.Ended e) is ends.1
step_left Limit lib left b is ends = let none = ends.0 in absurd (omega (arith, none))

run_gone : (how : Finish) (lib : Library) (left taken : ℕ) (last : Booted) → Ends how lib taken left last
unfolding Goes run_from
run_gone how lib zero taken last b turns is runs = (summary_of_run Limit taken b, record { none = refl; result_is = refl })
run_gone how lib (suc left) taken last b [] is runs =
    absurd (step_left how lib left b is (none_left how lib (suc left) b last runs))
run_gone how lib (suc left) taken last b (told ∷ turns) is runs =
    let first = first_turn how lib (suc left) b told turns last runs in
    let one = step_counts told (is_step lib b first.mid told is first.is) in
    let gone =
    serve_gone how lib (taken + 1) left first.mid turns last (run_gone how lib left (taken + 1) last)
    (first.on left (omega (arith, one))) in
    (gone.0, record { value = record { turn = told; after = first.mid }; is = first.is; rest = gone.1 })

-- A run that ends, from a state before a step.
pub run_ends :
    (how : Finish) (lib : Library) (limit : ℕ) (first : Booted) (turns : List Turn) (last : Booted)
    → first.next_event ≡ Step → AreTurns lib first turns last → Each IsEvent turns → Finishes how lib limit turns last
    → Gone (run_from lib 0 limit first)
run_ends how lib limit first turns last is are events finishes =
    run_gone how lib limit 0 last first turns is (record { are = are; events = events; finishes = finishes })

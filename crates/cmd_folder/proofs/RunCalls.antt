-- Each booted run that finishes is a call of its program, which puts all of its pieces.
use Rattle.std.proofs.Common.{◌≡◌, ◌≢◌, ℕ, zero, suc, ◌+◌, List, [], ◌∷◌, ◌++◌, Some, refl, sym, ap, subst, ◌∙◌, inl}
use Rattle.std.proofs.Common.{inr, arith}
use Rattle.std.proofs.lemmas.List.{append-nil}
use Rattle.m36_world.specs.Follow.{outputs}
use Rattle.m36_model.specs.Fields.{AtFields}
use Rattle.m36_model.specs.declared.endings.End.{End}
use Rattle.m36_link.specs.Snap.{snap_of}
use Rattle.m36_step.specs.declared.turns.Turn.{Turn}
use Rattle.m36_step.specs.declared.turns.Turn.TheVariants as turn
use Rattle.m36_super.specs.Library.{Library}
use Rattle.m36_super.specs.declared.next_event.NextEvent.{NextEvent}
use Rattle.m36_super.specs.declared.next_event.NextEvent.TheVariants.{Step, Link, Print}
use Rattle.m36_super.specs.declared.next_event.NextEvent.TheVariants as next_event
use Rattle.m36_super.specs.BootedRun.{Booted, IsTurnBy, IsTurn, AreTurns}
use Rattle.m36_super.specs.SuperTurn.{IsNoService}
use Rattle.m36_program.specs.Early.{result_of_status}
use Rattle.m36_program.specs.Goes.{Goes}
use Rattle.m36_program.specs.Program.{quiet, Program, puts_all, some}
use Rattle.m36_program.proofs.Gathered.{outputs_both}
use Rattle.m36_program.proofs.Performing.{goes_some, goes_wants}
use Rattle.m36_program.proofs.ProgramLaws.{goes_ends}
use Rattle.m36_program.proofs.PutLaws.{goes_puts}
use Rattle.cmd_folder.specs.declared.finish.Finish.{Finish}
use Rattle.cmd_folder.specs.declared.finish.Finish.TheVariants.{Over, Limit}
use Rattle.cmd_folder.specs.RunText.{turn_step_count, turns_step_count, pieces_of_turn, end_pieces, run_pieces, finish_status}
use Rattle.cmd_folder.specs.Runs.{IsEvent, Finishes}
use Rattle.cmd_folder.specs.Runs as runs
use Rattle.cmd_folder.proofs.TurnLaws.{link_is}
use Rattle.cmd_folder.specs.RunProgram.{RunContext, IsPossibleTurn, FindsMemory, finish_may_end, put_run_end, puts_turn}
use Rattle.cmd_folder.specs.RunProgram.{after_service, continue_after_service, serve_event, serve, run_from}
use Rattle.cmd_folder.proofs.RunGoes.{written, from_start, no_turns, turn_written, is_step, step_counts, linked_made}
use Rattle.cmd_folder.proofs.RunGoes.{PrintMade, print_made}
use Rattle.cmd_folder.proofs.Serving.{ended_pieces, print_over}

-- The program puts these pieces, and ends with the status of the finish.
abbrev Writes : Program quiet (Unit {0}) → List (List ℕ) → Finish → Type 0
Writes rest pieces how = Goes rest (outputs pieces) (result_of_status (finish_status (Some how)))

writes_first :
    (first more : List (List ℕ)) (rest : Program quiet (Unit {0})) (how : Finish)
    → Writes rest more how → Writes (puts_all first rest) (first ++ more) how
writes_first first more rest how writes =
    subst (λ e. Goes (puts_all first rest) e (result_of_status (finish_status (Some how)))) (sym (outputs_both first more))
    (goes_puts first rest (outputs more) (result_of_status (finish_status (Some how))) writes)

writes_end :
    (run : RunContext) (taken : ℕ) (how : Finish) → Writes (put_run_end run taken how)
    (end_pieces run.denied (Some how) taken) how
unfolding put_run_end
writes_end run taken how =
    let pieces = end_pieces run.denied (Some how) taken in
    subst (λ l. Goes (put_run_end run taken how) (outputs l) (result_of_status (finish_status (Some how)))) (append-nil pieces)
    (writes_first pieces [] _ how (goes_ends quiet (finish_status (Some how)) (finish_may_end how)))

writes_here :
    (run : RunContext) (taken : ℕ) (how : Finish) → Writes (put_run_end run taken how) (written run taken [] (Some how)) how
writes_here run taken how =
    subst (λ l. Writes (put_run_end run taken how) l how) (sym (no_turns run taken (Some how))) (writes_end run taken how)

writes_turn :
    (run : RunContext) (taken now : ℕ) (told : Turn) (turns : List Turn) (rest : Program quiet (Unit {0})) (how : Finish)
    → now ≡ taken + turn_step_count told → Writes rest (written run now turns (Some how)) how
    → Writes (puts_all (pieces_of_turn run.output taken told) rest) (written run taken (told ∷ turns) (Some how)) how
writes_turn run taken now told turns rest how is writes =
    subst (λ l. Writes (puts_all (pieces_of_turn run.output taken told) rest) l how)
    (sym (turn_written run taken now told turns (Some how) is))
    (writes_first (pieces_of_turn run.output taken told) (written run now turns (Some how)) rest how writes)

-- ---- a run from a state

-- a run of at most `left` steps that finishes
record Left (lib : Library) (left : ℕ) (b : Booted) (turns : List Turn) (last : Booted) (how : Finish) : Type 0 where
  pub goes : runs.Goes lib left b turns last
  pub finishes : Finishes how lib left turns last

-- The program that follows a step or a service writes a run from there.
abbrev RunWrites : RunContext → ℕ → ℕ → Type 0
RunWrites run taken left =
    (b : Booted) (turns : List Turn) (last : Booted) (how : Finish)
    → b.next_event ≡ Step → Left run.lib left b turns last how
    → Writes (run_from run taken left b) (written run taken turns (Some how)) how

finishes_rest :
    (how : Finish) (lib : Library) (left all : ℕ) (told : Turn) (turns : List Turn) (last : Booted)
    → all ≡ turn_step_count told + left → Finishes how lib all (told ∷ turns) last → Finishes how lib left turns last
unfolding turns_step_count
finishes_rest (Over e) lib left all told turns last is finishes = finishes
finishes_rest Limit lib left all told turns last is finishes = (omega (arith, is, finishes.0), finishes.1)

-- the state after the first turn of a run
unfoldable mid_of :
    (lib : Library) (left : ℕ) (b last : Booted) (told : Turn) (turns : List Turn) (how : Finish)
    → Left lib left b (told ∷ turns) last how → Booted
unfolding AreTurns
mid_of lib left b last told turns how ran = ran.goes.turns_are.0

-- the rest of a run after its first turn
rest_of :
    (lib : Library) (left all : ℕ) (b last : Booted) (told : Turn) (turns : List Turn) (how : Finish)
    → all ≡ turn_step_count told + left → (ran : Left lib all b (told ∷ turns) last how)
    → Left lib left (mid_of lib all b last told turns how ran) turns last how
unfolding AreTurns turns_step_count mid_of
rest_of lib left all b last told turns how is ran = record {
  goes = record {
    turns_are = ran.goes.turns_are.2;
    events = ran.goes.events.1;
    few = omega (arith, is, ran.goes.few);
  };
  finishes = finishes_rest how lib left all told turns last is ran.finishes;
}

-- the state after no turns
none_made : (lib : Library) (left : ℕ) (b last : Booted) (how : Finish) → Left lib left b [] last how → last ≡ b
unfolding AreTurns
none_made lib left b last how run = run.goes.turns_are

turn_by :
    (lib : Library) (b after : Booted) (told : Turn) (next : NextEvent)
    → b.next_event ≡ next → IsTurn lib b told after → IsTurnBy next lib b told after
unfolding IsTurn
turn_by lib b after told next is turns = subst (λ c. IsTurnBy c lib b told after) is turns

-- A run is not over where a step is next.
not_over :
    {P : Type 0} (lib : Library) (b after : Booted) (e : End) → b.next_event ≡ Step → IsTurn lib b (turn.Ended e) after → P
not_over lib b after e next is = absurd (is_step lib b after (turn.Ended e) next is)

-- ---- services

over_same : (e f : End) → turn.Ended f ≡ turn.Ended e → f ≡ e
over_same e f is = cc

no_step :
    {P : Type 0} (b last : Booted) (next : NextEvent) → last ≡ b → b.next_event ≡ next → last.next_event ≡ Step
    → (next ≡ Step → P) → P
no_step b last next here is step on = on (sym is ∙ ap (λ (s : Booted). s.next_event) (sym here) ∙ step)

-- The run is over in this state, and so it makes no more turns.
over_writes :
    (run : RunContext) (taken left : ℕ) (b : Booted) (e : End) (turns : List Turn) (last : Booted) (how : Finish)
    → b.next_event ≡ next_event.Over e → Left run.lib left b turns last how
    → Writes (put_run_end run taken (Over e)) (written run taken turns (Some how)) how
unfolding AreTurns
over_writes run taken left b e [] last Limit is ran =
    no_step b last (next_event.Over e) (none_made run.lib left b last Limit ran) is ran.finishes.1 (λ next. absurd (cc))
over_writes run taken left b e [] last (Over f) is ran =
    let here = none_made run.lib left b last (Over f) ran in
    let ended : IsTurn run.lib b (turn.Ended f) ran.finishes.0 = subst
    (λ s. IsTurn run.lib s (turn.Ended f) ran.finishes.0) here ran.finishes.1 in
    let by = turn_by run.lib b ran.finishes.0 (turn.Ended f) (next_event.Over e) is ended in
    subst (λ g. Writes (put_run_end run taken (Over g)) (written run taken [] (Some (Over f))) (Over f))
    (over_same e f by.0)
    (writes_here run taken (Over f))
over_writes run taken left b e (told ∷ turns) last how is ran =
    let made = ran.goes.turns_are in
    absurd (subst IsEvent (turn_by run.lib b made.0 told (next_event.Over e) is made.1).0 ran.goes.events.0)

-- what follows a service
after_writes :
    (next : NextEvent) (run : RunContext) (taken left : ℕ) (b : Booted) (turns : List Turn) (last : Booted) (how : Finish)
    → RunWrites run taken left → IsNoService next → b.next_event ≡ next → Left run.lib left b turns last how
    → Writes (after_service next run taken (λ b. run_from run taken left b) b) (written run taken turns (Some how)) how
after_writes Step run taken left b turns last how on silent is ran = on b turns last how is ran
after_writes (Link at) run taken left b turns last how on silent is ran = absurd silent
after_writes Print run taken left b turns last how on silent is ran = absurd silent
after_writes (next_event.Over e) run taken left b turns last how on silent is ran =
    over_writes run taken left b e turns last how is ran

service_writes :
    (run : RunContext) (taken left : ℕ) (after : Booted) (told : Turn) (turns : List Turn) (last : Booted) (how : Finish)
    → RunWrites run taken left → turn_step_count told ≡ 0 → IsNoService after.next_event → Left run.lib left after turns last how
    → Writes (puts_all (pieces_of_turn run.output taken told) (continue_after_service run taken (λ b. run_from run taken left b) after))
    (written run taken (told ∷ turns) (Some how)) how
service_writes run taken left after told turns last how on none quiet ran =
    writes_turn run taken taken told turns (continue_after_service run taken (λ b. run_from run taken left b) after) how
    (omega (arith, none))
    (after_writes after.next_event run taken left after turns last how on quiet refl ran)

link_writes :
    (run : RunContext) (taken left : ℕ) (b : Booted) (at : AtFields) (turns : List Turn) (last : Booted) (how : Finish)
    → RunWrites run taken left → b.next_event ≡ Link at → Left run.lib left b turns last how
    → Writes (serve_event (Link at) run taken (λ b. run_from run taken left b) b) (written run taken turns (Some how)) how
unfolding AreTurns mid_of
link_writes run taken left b at [] last Limit on is ran =
    no_step b last (Link at) (none_made run.lib left b last Limit ran) is ran.finishes.1 (λ next. absurd (cc))
link_writes run taken left b at [] last (Over f) on is ran =
    let here = none_made run.lib left b last (Over f) ran in
    let ended : IsTurn run.lib b (turn.Ended f) ran.finishes.0 = subst
    (λ s. IsTurn run.lib s (turn.Ended f) ran.finishes.0) here ran.finishes.1 in
    absurd (link_is (snap_of b.known run.lib.catalog run.lib.files at) run.lib.catalog.frames at b
    (turn.Ended f) ran.finishes.0
    (turn_by run.lib b ran.finishes.0 (turn.Ended f) (Link at) is ended))
link_writes run taken left b at (told ∷ turns) last how on is ran =
    let mid = ran.goes.turns_are.0 in
    let made = ran.goes.turns_are.1 in
    let event = ran.goes.events.0 in
    let found : told ≢ turn.NoMemory = λ e. subst IsEvent e event in
    let service = linked_made (snap_of b.known run.lib.catalog run.lib.files at) run.lib.catalog.frames at b told mid
    (turn_by run.lib b mid told (Link at) is made) found in
    let none = service.counts in
    let next = continue_after_service run taken (λ b. run_from run taken left b) in
    goes_wants (some (FindsMemory run.lib b) (puts_turn run taken next)) _ _
    (goes_some (FindsMemory run.lib b) (puts_turn run taken next) (record { turn = told; after = mid }) _ _
    (record { is = made; found = found })
    (service_writes run taken left mid told turns last how on none service.quiet
    (rest_of run.lib left left b last told turns how (omega (arith, none)) ran)))

print_counts : (told : Turn) (next : NextEvent) → PrintMade told next → IsEvent told → turn_step_count told ≡ 0
print_counts told next (inl console_pieces_of_turn) event = ap turn_step_count console_pieces_of_turn.1.told_is
print_counts told next (inr ended) event = absurd (subst IsEvent ended.1.told_is event)

printed_writes :
    (run : RunContext) (taken left : ℕ) (b mid : Booted) (told : Turn) (turns : List Turn) (last : Booted) (how : Finish)
    → RunWrites run taken left → IsTurn run.lib b told mid → IsEvent told → Left run.lib left mid turns last how
    → PrintMade told mid.next_event
    → Goes (some (IsPossibleTurn run.lib b) (puts_turn run taken (continue_after_service run taken (λ b. run_from run taken left b))))
    (outputs (written run taken (told ∷ turns) (Some how))) (result_of_status (finish_status (Some how)))
printed_writes run taken left b mid told turns last how on made event rest (inl console_pieces_of_turn) =
    goes_some (IsPossibleTurn run.lib b) (puts_turn run taken (continue_after_service run taken (λ b. run_from run taken left b)))
    (record { turn = told; after = mid }) _ _ made
    (service_writes run taken left mid told turns last how on (ap turn_step_count console_pieces_of_turn.1.told_is)
    (subst IsNoService (sym console_pieces_of_turn.1.next_is) tt) rest)
printed_writes run taken left b mid told turns last how on made event rest (inr ended) =
    absurd (subst IsEvent ended.1.told_is event)

print_writes :
    (run : RunContext) (taken left : ℕ) (b : Booted) (turns : List Turn) (last : Booted) (how : Finish)
    → RunWrites run taken left → b.next_event ≡ Print → Left run.lib left b turns last how
    → Writes (serve_event Print run taken (λ b. run_from run taken left b) b) (written run taken turns (Some how)) how
unfolding AreTurns mid_of
print_writes run taken left b [] last Limit on is ran =
    no_step b last Print (none_made run.lib left b last Limit ran) is ran.finishes.1 (λ next. absurd (cc))
print_writes run taken left b [] last (Over f) on is ran =
    let here = none_made run.lib left b last (Over f) ran in
    let after = ran.finishes.0 in
    let ended : IsTurn run.lib b (turn.Ended f) after = subst
    (λ s. IsTurn run.lib s (turn.Ended f) after) here ran.finishes.1 in
    let next = continue_after_service run taken (λ b. run_from run taken left b) in
    let over : Writes (next after) (written run taken [] (Some (Over f))) (Over f) =
    subst (λ c. Writes (after_service c run taken (λ b. run_from run taken left b) after)
    (written run taken [] (Some (Over f))) (Over f))
    (sym (print_over run.lib b f after is ended)) (writes_here run taken (Over f)) in
    goes_some (IsPossibleTurn run.lib b) (puts_turn run taken next) (record { turn = turn.Ended f; after = after }) _ _ ended
    (subst (λ l. Writes (puts_all l (next after)) (written run taken [] (Some (Over f))) (Over f))
    (sym (ended_pieces run.output taken f))
    (writes_first [] (written run taken [] (Some (Over f))) (next after) (Over f) over))
print_writes run taken left b (told ∷ turns) last how on is ran =
    let mid = ran.goes.turns_are.0 in
    let made = ran.goes.turns_are.1 in
    let kind = print_made _ _ b told mid (turn_by run.lib b mid told Print is made) in
    let none = print_counts told mid.next_event kind ran.goes.events.0 in
    printed_writes run taken left b mid told turns last how on made ran.goes.events.0
    (rest_of run.lib left left b last told turns how (omega (arith, none)) ran) kind

serves_by :
    (next : NextEvent) (run : RunContext) (taken left : ℕ) (b : Booted) (turns : List Turn) (last : Booted) (how : Finish)
    → RunWrites run taken left → b.next_event ≡ next → Left run.lib left b turns last how
    → Writes (serve_event next run taken (λ b. run_from run taken left b) b) (written run taken turns (Some how)) how
serves_by Step run taken left b turns last how on is ran = on b turns last how is ran
serves_by (Link at) run taken left b turns last how on is ran = link_writes run taken left b at turns last how on is ran
serves_by Print run taken left b turns last how on is ran = print_writes run taken left b turns last how on is ran
serves_by (next_event.Over e) run taken left b turns last how on is ran =
    over_writes run taken left b e turns last how is ran

serve_writes :
    (run : RunContext) (taken left : ℕ) (b : Booted) (turns : List Turn) (last : Booted) (how : Finish)
    → RunWrites run taken left → Left run.lib left b turns last how
    → Writes (serve run taken (λ b. run_from run taken left b) b) (written run taken turns (Some how)) how
unfolding serve
serve_writes run taken left b turns last how on ran = serves_by b.next_event run taken left b turns last how on refl ran

-- ---- the run

-- No run is over where a step is next.
not_ended :
    {P : Type 0} (lib : Library) (left : ℕ) (b last : Booted) (e : End) → b.next_event ≡ Step
    → Left lib left b [] last (Over e) → P
not_ended lib left b last e next ran =
    not_over lib b ran.finishes.0 e next
    (subst (λ s. IsTurn lib s (turn.Ended e) ran.finishes.0) (none_made lib left b last (Over e) ran) ran.finishes.1)

run_writes : (run : RunContext) (left taken : ℕ) → RunWrites run taken left
unfolding run_from AreTurns turns_step_count mid_of
run_writes run zero taken b [] last (Over f) next ran = not_ended run.lib 0 b last f next ran
run_writes run zero taken b [] last Limit next ran = writes_here run taken Limit
run_writes run zero taken b (told ∷ turns) last how next ran =
    let one = step_counts told (is_step run.lib b ran.goes.turns_are.0 told next ran.goes.turns_are.1) in
    absurd (omega (arith, one, ran.goes.few))
run_writes run (suc left) taken b [] last (Over f) next ran = not_ended run.lib (suc left) b last f next ran
run_writes run (suc left) taken b [] last Limit next ran = absurd (omega (arith, ran.finishes.0))
run_writes run (suc left) taken b (told ∷ turns) last how next ran =
    let mid = ran.goes.turns_are.0 in
    let made = ran.goes.turns_are.1 in
    let one = step_counts told (is_step run.lib b mid told next made) in
    let rest = serve run (taken + 1) (λ b. run_from run (taken + 1) left b) in
    goes_some (IsPossibleTurn run.lib b) (puts_turn run taken rest) (record { turn = told; after = mid }) _ _ made
    (writes_turn run taken (taken + 1) told turns (rest mid) how (omega (arith, one))
    (serve_writes run (taken + 1) left mid turns last how (run_writes run left (taken + 1))
    (rest_of run.lib left (suc left) b last told turns how (omega (arith, one)) ran)))

-- a run from its start
pub run_calls :
    (run : RunContext) (limit : ℕ) (first : Booted) (turns : List Turn) (last : Booted) (how : Finish)
    → first.next_event ≡ Step → runs.Goes run.lib limit first turns last → Finishes how run.lib limit turns last
    → Goes (run_from run 0 limit first) (outputs (run_pieces run.denied run.output turns (Some how)))
    (result_of_status (finish_status (Some how)))
run_calls run limit first turns last how next goes finishes =
    subst (λ l. Writes (run_from run 0 limit first) l how) (from_start run turns (Some how))
    (run_writes run limit 0 first turns last how next (record { goes = goes; finishes = finishes }))

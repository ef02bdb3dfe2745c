-- A run of a schedule, event by event: what is left of its program.
use Rattle.std.proofs.Common.{◌≡◌, ℕ, suc, ◌+◌, ◌<◌, ◌≤◌, List, [], ◌∷◌, ◌++◌, length, drop, Ok, Err, Some, refl, sym, ap, ◌∙◌, arith}
use Rattle.std.specs.Prelude.{slice_get}
use Rattle.std.proofs.Math.ListN.{drop_of_length-le}
use Rattle.m36_model.specs.Core.{core_store}
use Rattle.m36_model.specs.Schedule.{Processes, process_of, processes_after}
use Rattle.m36_model.specs.Step.{record_of}
use Rattle.m36_model.specs.declared.record.StepRecord.{StepRecord}
use Rattle.m36_procs.specs.EventResult.{EventResult, IsEvent}
use Rattle.m36_procs.specs.ProcsFields.{ProcsFields}
use Rattle.m36_procs.specs.ScheduleText.{event_line, end_line, pieces_from, schedule_pieces}
use Rattle.m36_procs.proofs.EventsRun.{pieces_first, pieces_last, get_of}
use Rattle.m36_world.specs.Seen.{Seen}
use Rattle.m36_world.specs.Follow.{Follow, outputs}
use Rattle.m36_status.specs.declared.status.Status.TheVariants.{Done, WriteFault}
use Rattle.m36_program.specs.Early.{ends}
use Rattle.m36_program.specs.Gathered.{Gathers, Loses}
use Rattle.m36_program.specs.Performs.{Performs, Leads}
use Rattle.m36_program.specs.Program.{quiet, Program, puts, puts_all}
use Rattle.m36_program.proofs.LeadLaws.{leads_start, leads_as, leads_adds, leads_lost_one, leads_lost, leads_finished, leads_empty}
use Rattle.m36_program.proofs.ProgramLaws.{goes_ends}
use Rattle.cmd_procs.specs.ProcsProgram.{run_schedule}
use Rattle.cmd_procs.proofs.Registers.{drop_at}

-- the end of a run
abbrev pub run_done : Program quiet (Unit {0})
run_done = ends Done tt

-- what is left of a run after n events
abbrev pub left_at : List ℕ → ℕ → Processes (List ℕ) → Program quiet (Unit {0})
left_at schedule n s = puts_all (pieces_from (length schedule) (n + 1) (drop n schedule) s) run_done

put_more : (piece : List ℕ) (pieces : List (List ℕ)) → puts_all (piece ∷ pieces) run_done ≡ puts piece (puts_all pieces run_done)
unfolding puts_all
put_more piece pieces = refl

-- no event was made
pub run_starts :
    (p : ProcsFields) (block : List (List ℕ)) (seen : Seen) → block ≡ []
    → Leads (puts_all block (left_at p.schedule 0 p.state)) (run_schedule p) seen seen
unfolding run_schedule schedule_pieces
run_starts p block seen none = leads_empty block (run_schedule p) (run_schedule p) seen seen none (leads_start (run_schedule p) seen)

-- the line of the next event, and what is left after it
event_left :
    (schedule : List ℕ) (n i : ℕ) (s new : Processes (List ℕ)) (step : StepRecord)
    → slice_get schedule n ≡ Some i → i < length s.regs → EventResult i s new step
    → left_at schedule n s ≡ puts (event_line (n + 1) i step) (left_at schedule (n + 1) new)
event_left schedule n i s new step at inside says =
    let own = get_of s.regs i inside in
    let is : IsEvent i s new step own.0 = says own.0 own.1 in
    let total = length schedule in
    let rest = drop (n + 1) schedule in
    let next : suc n ≡ n + 1 = omega arith in
    ap (λ l. puts_all (pieces_from total (n + 1) l s) run_done) (drop_at schedule n i at ∙ ap (λ m. i ∷ drop m schedule) next)
    ∙ ap (λ l. puts_all l run_done) (pieces_first total (n + 1) i rest s own.0 own.1)
    ∙ put_more (event_line (n + 1) i (record_of core_store (process_of s own.0))) (pieces_from total (n + 1 + 1) rest (processes_after core_store s i own.0))
    ∙ ap (λ r. puts (event_line (n + 1) i r) (puts_all (pieces_from total (n + 1 + 1) rest (processes_after core_store s i own.0)) run_done)) (sym is.told_is)
    ∙ ap (λ t. puts (event_line (n + 1) i step) (puts_all (pieces_from total (n + 1 + 1) rest t) run_done)) (sym is.state)

-- an event was made, and its line was added
pub run_next :
    (first : Program quiet (Unit {0})) (schedule : List ℕ) (n i : ℕ) (s new : Processes (List ℕ)) (step : StepRecord)
    (block block' : List (List ℕ)) (old between now : Seen)
    → Leads (puts_all block (left_at schedule n s)) first old between
    → slice_get schedule n ≡ Some i → i < length s.regs → EventResult i s new step
    → Gathers block block' (event_line (n + 1) i step ∷ []) between now
    → Leads (puts_all block' (left_at schedule (n + 1) new)) first old now
run_next first schedule n i s new step block block' old between now so_far at inside says added =
    leads_adds block block' (event_line (n + 1) i step) (left_at schedule (n + 1) new) first old between now
    (leads_as (puts_all block (left_at schedule n s)) _ first old between
    (ap (puts_all block) (event_left schedule n i s new step at inside says)) so_far)
    added

-- the line of an event was not put
pub run_lost :
    (first : Program quiet (Unit {0})) (schedule : List ℕ) (n i : ℕ) (s new : Processes (List ℕ)) (step : StepRecord)
    (block : List (List ℕ)) (old between now : Seen)
    → Leads (puts_all block (left_at schedule n s)) first old between
    → slice_get schedule n ≡ Some i → i < length s.regs → EventResult i s new step
    → Loses (block ++ event_line (n + 1) i step ∷ []) between now
    → Performs first (Err WriteFault) old now
run_lost first schedule n i s new step block old between now so_far at inside says lost =
    leads_lost_one block (event_line (n + 1) i step) (left_at schedule (n + 1) new) first old between now
    (leads_as (puts_all block (left_at schedule n s)) _ first old between
    (ap (puts_all block) (event_left schedule n i s new step at inside says)) so_far)
    lost

-- all events were made: the last line is left
last_left :
    (schedule : List ℕ) (n events : ℕ) (s : Processes (List ℕ)) → n ≡ length schedule → events ≡ length schedule
    → left_at schedule n s ≡ puts_all (end_line events ∷ []) run_done
last_left schedule n events s is all =
    let past : length schedule ≤ n = omega (arith, is) in
    ap (λ l. puts_all (pieces_from (length schedule) (n + 1) l s) run_done) (drop_of_length-le schedule past)
    ∙ ap (λ l. puts_all l run_done) (pieces_last (length schedule) (n + 1) s ∙ ap (λ m. end_line m ∷ []) (sym all))

pub run_ended :
    (first : Program quiet (Unit {0})) (schedule : List ℕ) (n events : ℕ) (s : Processes (List ℕ)) (block : List (List ℕ))
    (old between now : Seen)
    → Leads (puts_all block (left_at schedule n s)) first old between → n ≡ length schedule → events ≡ length schedule
    → Follow (outputs (block ++ end_line events ∷ [])) between now
    → Performs first (Ok tt) old now
run_ended first schedule n events s block old between now so_far is all put =
    leads_finished block (end_line events ∷ []) run_done first (Ok tt) old between now
    (leads_as (puts_all block (left_at schedule n s)) _ first old between (ap (puts_all block) (last_left schedule n events s is all)) so_far)
    put (goes_ends quiet Done tt)

pub run_unended :
    (first : Program quiet (Unit {0})) (schedule : List ℕ) (n events : ℕ) (s : Processes (List ℕ)) (block : List (List ℕ))
    (old between now : Seen)
    → Leads (puts_all block (left_at schedule n s)) first old between → n ≡ length schedule → events ≡ length schedule
    → Loses (block ++ end_line events ∷ []) between now
    → Performs first (Err WriteFault) old now
run_unended first schedule n events s block old between now so_far is all lost =
    leads_lost block (end_line events ∷ []) run_done first old between now
    (leads_as (puts_all block (left_at schedule n s)) _ first old between (ap (puts_all block) (last_left schedule n events s is all)) so_far)
    lost

pub ruleset running = (run_starts, run_next, run_lost, run_ended, run_unended)

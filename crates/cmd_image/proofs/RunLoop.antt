-- A run, step by step: what is left of its program.
use Rattle.std.proofs.Common.{◌≡◌, ℕ, zero, suc, ◌+◌, ◌-◌, ◌<◌, false, List, [], ◌∷◌, ◌++◌, Result, Err, refl, sym, ap, subst, ◌∙◌, arith}
use Rattle.m36_text.specs.Lines.{as_line}
use Rattle.m36_model.specs.Store.{State}
use Rattle.m36_model.specs.Run.{is_next}
use Rattle.m36_model.specs.declared.outcome.Outcome.{Outcome}
use Rattle.m36_model.specs.declared.outcome.Outcome.TheVariants.{Next, Faulted, Stopped}
use Rattle.m36_step.specs.MachineTurn.{end_by_outcome}
use Rattle.m36_trace.specs.EndLine.{end_line_of}
use Rattle.m36_trace.specs.TraceLine.{line_of}
use Rattle.m36_world.specs.Seen.{Seen}
use Rattle.m36_world.specs.Follow.{Follow, outputs}
use Rattle.m36_status.specs.declared.status.Status.{Status}
use Rattle.m36_status.specs.declared.status.Status.TheVariants.{WriteFault}
use Rattle.m36_program.specs.Early.{result_of_status}
use Rattle.m36_program.specs.Gathered.{Loses}
use Rattle.m36_program.specs.Goes.{Goes}
use Rattle.m36_program.specs.Performs.{Performs, Leads}
use Rattle.m36_program.specs.Program.{quiet, Program, puts, puts_all}
use Rattle.m36_program.proofs.LeadLaws.{leads_start, leads_as, leads_adds, leads_ends, leads_lost_one, leads_finished, leads_empty}
use Rattle.m36_program.proofs.ProgramLaws.{goes_ends}
use Rattle.m36_program.proofs.PutLaws.{puts_one}
use Rattle.cmd_image.specs.Machine.{step_record, after}
use Rattle.cmd_image.specs.Output.{status_after}
use Rattle.cmd_image.specs.ImageProgram.{run_may_end, run_status, put_run_end, after_step, run_from}
use Rattle.cmd_image.specs.Running.{StepAdded, LastStepAdded}

-- ---- the end

status_goes : (last : Outcome) → Goes (run_status last) [] (result_of_status (status_after last))
unfolding run_status
status_goes last = goes_ends quiet (status_after last) (run_may_end (end_by_outcome last))

ends_as : (taken : ℕ) (last : Outcome) → put_run_end taken last ≡ puts (as_line (end_line_of last taken)) (run_status last)
unfolding put_run_end
ends_as taken last = refl

start_all : (block : List (List ℕ)) (taken : ℕ) (last : Outcome) (seen : Seen)
    → Leads (puts_all block (puts (as_line (end_line_of last taken)) (run_status last))) (puts_all block (put_run_end taken last)) seen seen
start_all block taken last seen =
    leads_as (puts_all block (put_run_end taken last)) _ (puts_all block (put_run_end taken last)) seen seen
    (ap (puts_all block) (ends_as taken last)) (leads_start (puts_all block (put_run_end taken last)) seen)

-- the lines of the block and the end line were put
pub end_put :
    (block : List (List ℕ)) (taken : ℕ) (last : Outcome) (status : Status) (result : Result (Unit {0}) Status) (old new : Seen)
    → Follow (outputs (block ++ as_line (end_line_of last taken) ∷ [])) old new
    → status ≡ status_after last → result ≡ result_of_status status
    → Performs (puts_all block (put_run_end taken last)) result old new
end_put block taken last status result old new put status_is is =
    leads_finished block (as_line (end_line_of last taken) ∷ []) (run_status last) (puts_all block (put_run_end taken last)) result old old new
    (leads_as _ _ (puts_all block (put_run_end taken last)) old old (ap (puts_all block) (sym (puts_one (as_line (end_line_of last taken)) (run_status last)))) (start_all block taken last old))
    put (subst (λ r. Goes (run_status last) [] r) (sym (is ∙ ap result_of_status status_is)) (status_goes last))

-- the lines of the block and the end line were not all put
pub end_lost :
    (block : List (List ℕ)) (taken : ℕ) (last : Outcome) (old new : Seen)
    → Loses (block ++ as_line (end_line_of last taken) ∷ []) old new
    → Performs (puts_all block (put_run_end taken last)) (Err WriteFault) old new
end_lost block taken last old new lost =
    leads_lost_one block (as_line (end_line_of last taken)) (run_status last) (puts_all block (put_run_end taken last)) old old new
    (start_all block taken last old) lost

pub ruleset ending = (end_put, end_lost)

-- ---- the steps

run_more :
    (taken left : ℕ) (state : State (List ℕ)) → 0 < left
    → run_from taken left state
    ≡ puts (as_line (line_of (taken + 1) (step_record state)))
    (after_step (taken + 1) (step_record state).outcome (run_from (taken + 1) (left - 1) (after state)))
unfolding run_from
run_more taken zero state more = absurd (omega arith)
run_more taken (suc left) state more =
    let e : left ≡ suc left - 1 = omega arith in
    ap (λ n. puts (as_line (line_of (taken + 1) (step_record state)))
    (after_step (taken + 1) (step_record state).outcome (run_from (taken + 1) n (after state)))) e

run_none : (taken left : ℕ) (state : State (List ℕ)) → left ≡ 0 → run_from taken left state ≡ put_run_end taken Next
unfolding run_from
run_none taken left state none = ap (λ n. run_from taken n state) none

ends_then :
    (taken : ℕ) (last : Outcome) (rest : Program quiet (Unit {0}))
    → is_next last ≡ false → after_step taken last rest ≡ put_run_end taken last
ends_then taken Next rest ends = absurd (let e = ends in cc)
ends_then taken (Faulted fault) rest ends = refl
ends_then taken (Stopped stop) rest ends = refl

pub run_starts :
    (steps : ℕ) (state : State (List ℕ)) (block : List (List ℕ)) (seen : Seen)
    → block ≡ [] → Leads (puts_all block (run_from 0 steps state)) (run_from 0 steps state) seen seen
run_starts steps state block seen none =
    leads_empty block (run_from 0 steps state) (run_from 0 steps state) seen seen none
    (leads_start (run_from 0 steps state) seen)

-- a step was taken, and another may follow
pub run_next :
    (first : Program quiet (Unit {0})) (block block' : List (List ℕ)) (taken left : ℕ) (state state' : State (List ℕ)) (old between new : Seen)
    → Leads (puts_all block (run_from taken left state)) first old between → 0 < left
    → StepAdded (taken + 1) Next state block block' between new → state' ≡ after state
    → Leads (puts_all block' (run_from (taken + 1) (left - 1) state')) first old new
run_next first block block' taken left state state' old between new so_far more stepped moved =
    let line = as_line (line_of (taken + 1) (step_record state)) in
    let rest = run_from (taken + 1) (left - 1) (after state) in
    subst (λ s. Leads (puts_all block' (run_from (taken + 1) (left - 1) s)) first old new) (sym moved)
    (leads_adds block block' line rest first old between new
    (leads_as (puts_all block (run_from taken left state)) _ first old between
    (ap (puts_all block) (run_more taken left state more ∙ ap (λ o. puts line (after_step (taken + 1) o rest)) stepped.outcome_is)) so_far)
    stepped.added)

-- a step ended the run
pub run_last :
    (first : Program quiet (Unit {0})) (block block' : List (List ℕ)) (taken left : ℕ) (state : State (List ℕ)) (last : Outcome)
    (result : Result (Unit {0}) Status) (old between now new : Seen)
    → Leads (puts_all block (run_from taken left state)) first old between → 0 < left
    → LastStepAdded (taken + 1) last state block block' between now
    → Performs (puts_all block' (put_run_end (taken + 1) last)) result now new
    → Performs first result old new
run_last first block block' taken left state last result old between now new so_far more ending performs =
    let line = as_line (line_of (taken + 1) (step_record state)) in
    let rest = run_from (taken + 1) (left - 1) (after state) in
    leads_ends (puts_all block' (put_run_end (taken + 1) last)) first result old now new
    (leads_adds block block' line (put_run_end (taken + 1) last) first old between now
    (leads_as (puts_all block (run_from taken left state)) _ first old between
    (ap (puts_all block) (run_more taken left state more ∙ ap (λ o. puts line (after_step (taken + 1) o rest)) ending.stepped.outcome_is
    ∙ ap (puts line) (ends_then (taken + 1) last rest ending.last))) so_far)
    ending.stepped.added)
    performs

-- the line of a step was not put
pub run_lost :
    (first : Program quiet (Unit {0})) (block : List (List ℕ)) (taken left : ℕ) (state : State (List ℕ)) (old between new : Seen)
    → Leads (puts_all block (run_from taken left state)) first old between → 0 < left
    → Loses (block ++ as_line (line_of (taken + 1) (step_record state)) ∷ []) between new
    → Performs first (Err WriteFault) old new
run_lost first block taken left state old between new so_far more lost =
    leads_lost_one block (as_line (line_of (taken + 1) (step_record state))) _ first old between new
    (leads_as (puts_all block (run_from taken left state)) _ first old between (ap (puts_all block) (run_more taken left state more)) so_far)
    lost

-- no step is left
pub run_limit :
    (first : Program quiet (Unit {0})) (block : List (List ℕ)) (taken left : ℕ) (state : State (List ℕ))
    (result : Result (Unit {0}) Status) (old between new : Seen)
    → Leads (puts_all block (run_from taken left state)) first old between → left ≡ 0
    → Performs (puts_all block (put_run_end taken Next)) result between new
    → Performs first result old new
run_limit first block taken left state result old between new so_far none performs =
    leads_ends (puts_all block (put_run_end taken Next)) first result old between new
    (leads_as (puts_all block (run_from taken left state)) _ first old between (ap (puts_all block) (run_none taken left state none)) so_far)
    performs

pub ruleset running = (run_starts, run_next, run_last, run_lost, run_limit)

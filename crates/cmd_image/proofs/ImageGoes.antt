-- What the program of a command puts on an image, by the findings of the audit, and that it ends.
use Rattle.std.proofs.Common.{◌≡◌, ℕ, zero, suc, ◌+◌, ◌++◌, Bool, true, false, List, [], ◌∷◌, Result, refl, sym, ap}
use Rattle.std.proofs.Common.{subst, ◌∙◌}
use Rattle.m36_text.specs.Lines.{as_line}
use Rattle.m36_model.specs.Store.{State}
use Rattle.m36_model.specs.Run.{is_next, only_if}
use Rattle.m36_model.specs.declared.outcome.Outcome.{Outcome}
use Rattle.m36_model.specs.declared.outcome.Outcome.TheVariants.{Next, Faulted, Stopped}
use Rattle.m36_model.specs.declared.record.StepRecord.{StepRecord}
use Rattle.m36_step.specs.MachineTurn.{end_by_outcome}
use Rattle.m36_trace.specs.EndLine.{end_line_of}
use Rattle.m36_trace.specs.TraceLine.{line_of}
use Rattle.m36_world.specs.declared.event.Event.{Event}
use Rattle.m36_status.specs.declared.status.Status.{Status}
use Rattle.m36_program.specs.Early.{MayEnd, ends}
use Rattle.m36_program.specs.Goes.{Goes}
use Rattle.m36_program.specs.Program.{quiet, Program, puts, puts_all}
use Rattle.m36_program.proofs.PieceLaws.{PutsBy, puts_ended}
use Rattle.m36_program.proofs.PutLaws.{puts_both, puts_one}
use Rattle.cmd_image.specs.AuditText.{audit_pieces}
use Rattle.cmd_image.specs.Machine.{step_record, after}
use Rattle.cmd_image.specs.Output.{pieces_from, run_pieces, status_after}
use Rattle.cmd_image.specs.ImageAudit.{passes, is_run_allowed, audit_status}
use Rattle.cmd_image.specs.Run.{run, last_outcome}
use Rattle.cmd_image.specs.declared.command.ImageCommand.{ImageCommand}
use Rattle.cmd_image.specs.declared.command.ImageCommand.TheVariants.{Bare, Audit}
use Rattle.cmd_image.proofs.RunLaws.{run_more, run_none, pieces_next, pieces_last, pieces_none, last_after_next}
use Rattle.cmd_image.specs.ImageProgram.{run_may_end, run_status, put_run_end, after_step, run_from}
use Rattle.cmd_image.specs.ImageProgram.{audit_may_end, audit_only, audit_and_run, audit_and_run_if, command_after_audit}
use Rattle.cmd_image.specs.ImageEnds.{bare_pieces, image_pieces, bare_status, image_status}
use Rattle.cmd_image.proofs.PutEnds.{SomeEnd, puts_end}

-- ---- a run puts the pieces of its records

abbrev own_after : (last : Outcome) → MayEnd (status_after last)
own_after last = run_may_end (end_by_outcome last)

-- what is left of a run, by the records of its steps
abbrev rest_by : ℕ → List StepRecord → Program quiet (Unit {0})
rest_by taken steps = puts_all (pieces_from taken steps) (ends (status_after (last_outcome steps)) (own_after (last_outcome steps)))

ends_is : (taken : ℕ) (last : Outcome)
    → put_run_end taken last ≡ puts_all (as_line (end_line_of last taken) ∷ []) (ends (status_after last) (own_after last))
unfolding put_run_end run_status
ends_is taken last = sym (puts_one (as_line (end_line_of last taken)) (ends (status_after last) (own_after last)))

all_more :
    (piece : List ℕ) (pieces : List (List ℕ)) (rest : Program quiet (Unit {0}))
    → puts piece (puts_all pieces rest) ≡ puts_all (piece ∷ pieces) rest
unfolding puts_all
all_more piece pieces rest = refl

-- the run ends by a step
ended_is :
    (taken : ℕ) (step : StepRecord) (last : Outcome) → step.outcome ≡ last
    → puts (as_line (line_of (taken + 1) step)) (put_run_end (taken + 1) last) ≡ rest_by taken (step ∷ [])
ended_is taken step last is =
    let line = as_line (line_of (taken + 1) step) in
    let rest : Program quiet (Unit {0}) = ends (status_after step.outcome) (own_after step.outcome) in
    ap (λ o. puts line (put_run_end (taken + 1) o)) (sym is)
    ∙ ap (puts line) (ends_is (taken + 1) step.outcome)
    ∙ all_more line (as_line (end_line_of step.outcome (taken + 1)) ∷ []) rest
    ∙ ap (λ l. puts_all l rest) (sym (pieces_last taken step))

-- by the outcome of a step
step_is :
    (taken : ℕ) (step : StepRecord) (last : Outcome) (steps : List StepRecord) (rest : Program quiet (Unit {0}))
    → step.outcome ≡ last → rest ≡ rest_by (taken + 1) steps
    → puts (as_line (line_of (taken + 1) step)) (after_step (taken + 1) last rest)
    ≡ rest_by taken (step ∷ only_if (is_next last) steps)
step_is taken step Next steps rest is so =
    let line = as_line (line_of (taken + 1) step) in
    ap (puts line) so
    ∙ all_more line (pieces_from (taken + 1) steps) (ends (status_after (last_outcome steps)) (own_after (last_outcome steps)))
    ∙ ap (λ l. puts_all l (ends (status_after (last_outcome steps)) (own_after (last_outcome steps)))) (sym (pieces_next taken step steps is))
    ∙ ap (λ o. puts_all (pieces_from taken (step ∷ steps)) (ends (status_after o) (own_after o))) (sym (last_after_next step steps is))
step_is taken step (Faulted fault) steps rest is so = ended_is taken step (Faulted fault) is
step_is taken step (Stopped stop) steps rest is so = ended_is taken step (Stopped stop) is

run_is : (taken left : ℕ) (state : State (List ℕ)) → run_from taken left state ≡ rest_by taken (run left state)
unfolding run_from
run_is taken zero state =
    ends_is taken Next
    ∙ ap (λ l. puts_all l (ends (status_after Next) (own_after Next))) (sym (pieces_none taken))
    ∙ ap (rest_by taken) (sym (run_none state))
run_is taken (suc left) state =
    step_is taken (step_record state) (step_record state).outcome (run left (after state)) (run_from (taken + 1) left (after state)) refl
    (run_is (taken + 1) left (after state))
    ∙ ap (rest_by taken) (sym (run_more left state))

-- ---- what is put, by the findings

pub audit_puts :
    (findings : List (ℕ × ℕ)) (events : List Event) (result : Result (Unit {0}) Status)
    → Goes (audit_only findings) events result
    → PutsBy (audit_pieces findings) (audit_status (passes findings)) events result
unfolding audit_only
audit_puts findings events result goes =
    puts_ended quiet (audit_pieces findings) (audit_status (passes findings)) (audit_may_end (passes findings)) events result goes

-- a run after its audit, as one list of pieces
both_is :
    (steps : ℕ) (state : State (List ℕ)) (findings : List (ℕ × ℕ))
    → audit_and_run steps state findings
    ≡ puts_all (audit_pieces findings ++ run_pieces steps state)
    (ends (status_after (last_outcome (run steps state))) (own_after (last_outcome (run steps state))))
unfolding audit_and_run run_pieces
both_is steps state findings =
    let last = last_outcome (run steps state) in
    ap (puts_all (audit_pieces findings)) (run_is 0 steps state)
    ∙ sym (puts_both (audit_pieces findings) (pieces_from 0 (run steps state)) (ends (status_after last) (own_after last)))

both_puts :
    (steps : ℕ) (state : State (List ℕ)) (findings : List (ℕ × ℕ)) (events : List Event) (result : Result (Unit {0}) Status)
    → Goes (audit_and_run steps state findings) events result
    → PutsBy (audit_pieces findings ++ run_pieces steps state) (status_after (last_outcome (run steps state))) events result
both_puts steps state findings events result goes =
    let last = last_outcome (run steps state) in
    puts_ended quiet (audit_pieces findings ++ run_pieces steps state) (status_after last) (own_after last) events result
    (subst (λ p. Goes p events result) (both_is steps state findings) goes)

bare_puts :
    (run : Bool) (steps : ℕ) (state : State (List ℕ)) (findings : List (ℕ × ℕ)) (events : List Event)
    (result : Result (Unit {0}) Status)
    → Goes (audit_and_run_if run steps state findings) events result
    → PutsBy (bare_pieces run steps state findings) (bare_status run steps state findings) events result
bare_puts true steps state findings events result goes = both_puts steps state findings events result goes
bare_puts false steps state findings events result goes = audit_puts findings events result goes

pub found_puts :
    (command : ImageCommand) (state : State (List ℕ)) (findings : List (ℕ × ℕ)) (events : List Event)
    (result : Result (Unit {0}) Status)
    → Goes (command_after_audit command state findings) events result
    → PutsBy (image_pieces command state findings) (image_status command state findings) events result
found_puts (Bare bare) state findings events result goes =
    bare_puts (is_run_allowed findings bare.unaudited) bare.steps state findings events result goes
found_puts Audit state findings events result goes = audit_puts findings events result goes

-- ---- some call ends

pub audit_end : (findings : List (ℕ × ℕ)) → SomeEnd (audit_only findings)
unfolding audit_only
audit_end findings = puts_end (audit_pieces findings) (audit_status (passes findings)) (audit_may_end (passes findings))

bare_end :
    (is : Bool) (steps : ℕ) (state : State (List ℕ)) (findings : List (ℕ × ℕ))
    → SomeEnd (audit_and_run_if is steps state findings)
bare_end true steps state findings =
    let last = last_outcome (run steps state) in
    subst SomeEnd (sym (both_is steps state findings))
    (puts_end (audit_pieces findings ++ run_pieces steps state) (status_after last) (own_after last))
bare_end false steps state findings = audit_end findings

pub found_end :
    (command : ImageCommand) (state : State (List ℕ)) (findings : List (ℕ × ℕ))
    → SomeEnd (command_after_audit command state findings)
found_end (Bare bare) state findings = bare_end (is_run_allowed findings bare.unaudited) bare.steps state findings
found_end Audit state findings = audit_end findings

-- Programs on a bare image are alike to themselves.
use Rattle.std.proofs.Common.{ℕ, zero, suc, ◌+◌, Bool, true, false, List, Result, Ok, Err, refl}
use Rattle.m36_model.specs.Store.{State}
use Rattle.m36_model.specs.declared.outcome.Outcome.{Outcome}
use Rattle.m36_model.specs.declared.outcome.Outcome.TheVariants.{Next, Faulted, Stopped}
use Rattle.m36_isol.proofs.Findings.{findings_law}
use Rattle.m36_image.specs.ImageState.{state_of_text}
use Rattle.m36_image.specs.declared.refusal.Refusal as refusal
use Rattle.m36_step.specs.MachineTurn.{end_by_outcome}
use Rattle.m36_status.specs.declared.status.Status.{Status}
use Rattle.m36_status.specs.declared.status.Status.TheVariants as status
use Rattle.m36_program.specs.Alike.{Alike}
use Rattle.m36_program.specs.Early.{MayEnd, ends}
use Rattle.m36_program.specs.Program.{quiet, Program, some}
use Rattle.m36_program.specs.Readers.{refuses, file_bytes}
use Rattle.m36_program.proofs.AlikeLaws.{alike_wants, alike_then, alike_puts, alike_one, bytes_alike, has_one_text}
use Rattle.cmd_image.specs.AuditText.{audit_pieces}
use Rattle.cmd_image.specs.Machine.{step_record, after}
use Rattle.cmd_image.specs.Output.{status_after}
use Rattle.cmd_image.specs.ImageAudit.{passes, is_run_allowed, audit_status}
use Rattle.cmd_image.specs.declared.command.ImageCommand.{ImageCommand}
use Rattle.cmd_image.specs.declared.command.ImageCommand.TheVariants.{Bare, Audit}
use Rattle.cmd_image.specs.ImageProgram.{state_or_refusal, decode, image_state, run_may_end, run_status, put_run_end, after_step}
use Rattle.cmd_image.specs.ImageProgram.{run_from}
use Rattle.cmd_image.specs.ImageProgram.{AreAuditFindings, audit_may_end, audit_only, audit_and_run, audit_and_run_if}
use Rattle.cmd_image.specs.ImageProgram.{command_after_audit, on_image, image_program}
use Rattle.cmd_image.specs.OneText.{ImageTextLaw}

decoded_alike :
    (name : List ℕ) (given : Result (State (List ℕ)) refusal.Refusal)
    → Alike {may = quiet} (state_or_refusal name given) (state_or_refusal name given)
unfolding Alike refuses
decoded_alike name (Ok state) = refl
decoded_alike name (Err f) = refl

decode_alike : (name bytes : List ℕ) → Alike {may = quiet} (decode name bytes) (decode name bytes)
unfolding Alike decode
decode_alike name bytes =
    alike_wants (state_or_refusal name (state_of_text bytes)) (state_or_refusal name (state_of_text bytes)) (decoded_alike name (state_of_text bytes))

state_alike : (name : List ℕ) → Alike {may = quiet} (image_state name) (image_state name)
unfolding image_state
state_alike name =
    alike_then (file_bytes name) (file_bytes name) (decode name) (decode name) (bytes_alike quiet name) (decode_alike name)

pub ends_alike : (s : Status) (own : MayEnd s) → Alike {may = quiet} (ends s own) (ends s own)
unfolding Alike ends
ends_alike status.Done own = refl
ends_alike _ own = refl

run_ends_alike : (taken : ℕ) (last : Outcome) → Alike (put_run_end taken last) (put_run_end taken last)
unfolding Alike put_run_end run_status
run_ends_alike taken last = (refl, ends_alike (status_after last) (run_may_end (end_by_outcome last)))

after_alike :
    (taken : ℕ) (last : Outcome) (rest : Program quiet (Unit {0})) → Alike rest rest
    → Alike (after_step taken last rest) (after_step taken last rest)
after_alike taken Next rest alike = alike
after_alike taken (Faulted fault) rest alike = run_ends_alike taken (Faulted fault)
after_alike taken (Stopped stop) rest alike = run_ends_alike taken (Stopped stop)

run_alike : (taken left : ℕ) (state : State (List ℕ)) → Alike (run_from taken left state) (run_from taken left state)
unfolding Alike run_from
run_alike taken zero state = run_ends_alike taken Next
run_alike taken (suc left) state =
    (refl, after_alike (taken + 1) (step_record state).outcome (run_from (taken + 1) left (after state)) (run_alike (taken + 1) left (after state)))

pub audit_alike : (findings : List (ℕ × ℕ)) → Alike (audit_only findings) (audit_only findings)
unfolding audit_only
audit_alike findings =
    let last : Program quiet (Unit {0}) = ends (audit_status (passes findings)) (audit_may_end (passes findings)) in
    alike_puts (audit_pieces findings) last last (ends_alike (audit_status (passes findings)) (audit_may_end (passes findings)))

both_alike :
    (steps : ℕ) (state : State (List ℕ)) (findings : List (ℕ × ℕ))
    → Alike (audit_and_run steps state findings) (audit_and_run steps state findings)
unfolding Alike audit_and_run
both_alike steps state findings =
    alike_puts (audit_pieces findings) (run_from 0 steps state) (run_from 0 steps state) (run_alike 0 steps state)

bare_alike :
    (run : Bool) (steps : ℕ) (state : State (List ℕ)) (findings : List (ℕ × ℕ))
    → Alike (audit_and_run_if run steps state findings) (audit_and_run_if run steps state findings)
bare_alike true steps state findings = both_alike steps state findings
bare_alike false steps state findings = audit_alike findings

by_alike :
    (command : ImageCommand) (state : State (List ℕ)) (findings : List (ℕ × ℕ))
    → Alike (command_after_audit command state findings) (command_after_audit command state findings)
by_alike (Bare bare) state findings = bare_alike (is_run_allowed findings bare.unaudited) bare.steps state findings
by_alike Audit state findings = audit_alike findings

image_alike :
    (command : ImageCommand) (state : State (List ℕ)) → Alike (on_image command state) (on_image command state)
unfolding Alike on_image
image_alike command state =
    let chosen : Program quiet (Unit {0}) = some (AreAuditFindings state) (command_after_audit command state) in
    alike_wants chosen chosen (alike_one (AreAuditFindings state) (command_after_audit command state)
    (λ f g is is'. findings_law.unique state.store state.regs.dbr f g is.found is'.found)
    (λ f is. by_alike command state f))

pub program_alike :
    (command : ImageCommand) (name : List ℕ) → Alike (image_program command name) (image_program command name)
unfolding image_program
program_alike command name =
    alike_then (image_state name) (image_state name) (on_image command) (on_image command) (state_alike name) (image_alike command)

pub image_text_law : ImageTextLaw
image_text_law command name = has_one_text (image_program command name) refl (program_alike command name)

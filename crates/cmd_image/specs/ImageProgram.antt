-- What `bare FILE` and `audit FILE` do, as programs: they read and decode the file and put the text
-- of the audit. If the machine is run, they put a line for each step, and the end line.
use Rattle.std.specs.Prelude.{ℕ, zero, suc, ◌≡◌, ◌+◌, Bool, true, false, List, [], Result, Ok, Err}
use Rattle.std.specs.Prelude.{Option, Some, None}
use Rattle.m36_text.specs.Lines.{as_line}
use Rattle.m36_model.specs.Store.{State}
use Rattle.m36_model.specs.Audit.{AreFindings}
use Rattle.m36_model.specs.declared.endings.End.{End}
use Rattle.m36_model.specs.declared.endings.End.TheVariants as end
use Rattle.m36_model.specs.declared.outcome.Outcome.{Outcome}
use Rattle.m36_model.specs.declared.outcome.Outcome.TheVariants.{Next, Faulted, Stopped}
use Rattle.m36_model.specs.declared.outcome.Stop.TheVariants.{Dis, Operation, Tag}
use Rattle.m36_step.specs.MachineTurn.{end_by_outcome}
use Rattle.m36_image.specs.ImageState.{state_of_text}
use Rattle.m36_image.specs.declared.refusal.Refusal as refusal
use Rattle.m36_trace.specs.EndLine.{end_line_of}
use Rattle.m36_trace.specs.TraceLine.{line_of}
use Rattle.m36_program.specs.Early.{MayEnd, ends}
use Rattle.m36_program.specs.Program.{May, quiet, Program, done, puts, puts_all, some, wants}
use Rattle.m36_program.specs.Program.{then_with}
use Rattle.m36_program.specs.Readers.{bad_file, refuses, file_bytes}
use Rattle.cmd_image.specs.declared.command.ImageCommand.{ImageCommand}
use Rattle.cmd_image.specs.declared.command.ImageCommand.TheVariants.{Bare, Audit}
use Rattle.cmd_image.specs.AuditText.{audit_pieces}
use Rattle.cmd_image.specs.Machine.{step_record, after}
use Rattle.cmd_image.specs.Output.{end_status, end_or_limit_status, status_after}
use Rattle.cmd_image.specs.ImageAudit.{code_of, passes, is_run_allowed, audit_status, IsIsolated}

-- ---- reading

-- yields the machine of an image that was decoded, or refuses the file of this name (I1 to I3)
abbrev pub state_or_refusal :
    {may : May} → List ℕ → Result (State (List ℕ)) refusal.Refusal → Program may (State (List ℕ))
state_or_refusal name (Ok state) = done state
state_or_refusal name (Err refusal) = refuses (bad_file name (code_of refusal.code) refusal.line)

-- decodes the bytes of an image, unless memory runs out
unfoldable pub decode : {may : May} → List ℕ → List ℕ → Program may (State (List ℕ))
decode name bytes = wants (state_or_refusal name (state_of_text bytes))

-- reads and decodes an image; its value is the machine of the image
unfoldable pub image_state : {may : May} → List ℕ → Program may (State (List ℕ))
image_state name = then_with (file_bytes name) (decode name)

-- ---- the end of a run

-- The status of an end is one that a program may end with.
abbrev pub may_end : (e : End) → MayEnd (end_status e)
may_end (end.Fault fault) = tt
may_end (end.Stop Dis) = tt
may_end (end.Stop Operation) = tt
may_end (end.Stop Tag) = tt
may_end (end.Link code) = tt
may_end end.Console = tt

-- The status of a run is one that a program may end with, also if the run has not ended.
abbrev pub run_may_end : (e : Option End) → MayEnd (end_or_limit_status e)
run_may_end None = tt
run_may_end (Some e) = may_end e

-- the status of a run whose last step had this outcome
unfoldable pub run_status : Outcome → Program quiet (Unit {0})
run_status last = ends (status_after last) (run_may_end (end_by_outcome last))

-- puts the end line of a run of `taken` steps, the last with this outcome, and ends with its status
unfoldable pub put_run_end : ℕ → Outcome → Program quiet (Unit {0})
put_run_end taken last = puts (as_line (end_line_of last taken)) (run_status last)

-- ---- the run

-- The program after a step with this outcome. After Next it continues with `rest`; after a fault or
-- a stop it puts the end line.
abbrev pub after_step :
    ℕ → Outcome → Program quiet (Unit {0}) → Program quiet (Unit {0})
after_step taken Next rest = rest
after_step taken (Faulted fault) rest = put_run_end taken (Faulted fault)
after_step taken (Stopped stop) rest = put_run_end taken (Stopped stop)

-- Runs the machine for at most `left` more steps, after `taken` steps. It puts a line for each
-- step, and the end line. The second number is `left`.
unfoldable pub run_from : ℕ → ℕ → State (List ℕ) → Program quiet (Unit {0})
run_from taken zero state = put_run_end taken Next
run_from taken (suc left) state =
    puts (as_line (line_of (taken + 1) (step_record state)))
    (after_step (taken + 1) (step_record state).outcome (run_from (taken + 1) left (after state)))

-- ---- the audit

-- The findings of the audit of a machine, each the number of its condition and its place. If there
-- are none, the machine's tables isolate each ring from 1 to 7.
pub record AreAuditFindings (state : State (List ℕ)) (findings : List (ℕ × ℕ)) : Type 0 where
  pub found : AreFindings state.store state.regs.dbr findings
  pub isolated : findings ≡ [] → IsIsolated state.store state.regs.dbr

-- The status of an audit is one that a program may end with.
abbrev pub audit_may_end : (passed : Bool) → MayEnd (audit_status passed)
audit_may_end true = tt
audit_may_end false = tt

-- puts the text of the audit, and ends with Done or AuditNo
unfoldable pub audit_only : List (ℕ × ℕ) → Program quiet (Unit {0})
audit_only findings =
    puts_all (audit_pieces findings)
    (ends (audit_status (passes findings)) (audit_may_end (passes findings)))

-- puts the text of the audit, and runs the machine for at most `steps` steps
unfoldable pub audit_and_run : ℕ → State (List ℕ) → List (ℕ × ℕ) → Program quiet (Unit {0})
audit_and_run steps state findings =
    puts_all (audit_pieces findings) (run_from 0 steps state)

-- `bare FILE` for a machine with these findings; the Boolean is whether it is run
abbrev pub audit_and_run_if : Bool → ℕ → State (List ℕ) → List (ℕ × ℕ) → Program quiet (Unit {0})
audit_and_run_if true steps state findings = audit_and_run steps state findings
audit_and_run_if false steps state findings = audit_only findings

-- what a command does with a machine that has these findings
abbrev pub command_after_audit :
    ImageCommand → State (List ℕ) → List (ℕ × ℕ) → Program quiet (Unit {0})
command_after_audit (Bare bare) state findings =
    audit_and_run_if (is_run_allowed findings bare.unaudited) bare.steps state findings
command_after_audit Audit state findings = audit_only findings

-- ---- a command

-- Audits a machine and performs a command for it. Memory may run out only before the audit.
unfoldable pub on_image : ImageCommand → State (List ℕ) → Program quiet (Unit {0})
on_image command state = wants (some (AreAuditFindings state) (command_after_audit command state))

-- `bare FILE` or `audit FILE`
unfoldable pub image_program : ImageCommand → List ℕ → Program quiet (Unit {0})
image_program command name = then_with (image_state name) (on_image command)

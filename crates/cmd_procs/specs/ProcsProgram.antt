-- What `procs FILE` does, as a program: read and decode the file, put the text of the joint audit,
-- and if the schedule is run, put a line for each of its events and the last line.
use Rattle.std.specs.Prelude.{ℕ, ◌≡◌, Bool, true, false, List, [], Result, Ok, Err}
use Rattle.m36_model.specs.JointAudit.{JointFindingFields, AreJointFindings}
use Rattle.m36_model.specs.Schedule.{Processes}
use Rattle.m36_procs.specs.ProcsFields.{ProcsFields}
use Rattle.m36_procs.specs.ProcsFile.{procs_of_text}
use Rattle.m36_procs.specs.ScheduleText.{schedule_pieces}
use Rattle.m36_procs.specs.declared.fault.ProcsCode.{ProcsCode}
use Rattle.m36_status.specs.declared.status.Status.TheVariants.{Done}
use Rattle.m36_program.specs.Early.{ends}
use Rattle.m36_program.specs.Program.{May, quiet, Program, done, puts_all, some, wants, then_with}
use Rattle.m36_program.specs.Readers.{bad_file, refuses, file_bytes}
use Rattle.cmd_image.specs.ImageAudit.{is_run_allowed, audit_status}
use Rattle.cmd_procs.specs.JointText.{joint_audit_pieces}
use Rattle.cmd_procs.specs.Scheduled.{code_of, dbrs_of, SchedulesAreIsolated}

-- ---- reading

-- yields the processes that were decoded, or refuses the file of this name (P1 or P2)
abbrev pub procs_or_refusal :
    {may : May} → List ℕ → Result ProcsFields (ℕ × ProcsCode) → Program may ProcsFields
procs_or_refusal name (Ok p) = done p
procs_or_refusal name (Err refusal) = refuses (bad_file name (code_of refusal.1) refusal.0)

-- decodes the bytes of a text of processes; memory may run out
unfoldable pub decode : {may : May} → List ℕ → List ℕ → Program may ProcsFields
decode name bytes = wants (procs_or_refusal name (procs_of_text bytes))

-- reads and decodes the processes and the schedule of a file
unfoldable pub procs_in_file : {may : May} → List ℕ → Program may ProcsFields
procs_in_file name = then_with (file_bytes name) (decode name)

-- ---- the joint audit, and the run

-- The findings of the joint audit. If there are none, every schedule of the processes is isolated.
pub record AreScheduleFindings (s : Processes (List ℕ))
    (findings : List JointFindingFields) : Type 0 where
  pub found : AreJointFindings s.store (dbrs_of s) findings
  pub isolated : findings ≡ [] → SchedulesAreIsolated s

-- puts the audit's text, and ends with AuditNo
unfoldable pub audit_only : List JointFindingFields → Program quiet (Unit {0})
audit_only findings = puts_all (joint_audit_pieces findings) (ends (audit_status false) tt)

-- puts a line for each event of the schedule, and the last line
unfoldable pub run_schedule : ProcsFields → Program quiet (Unit {0})
run_schedule p = puts_all (schedule_pieces p.schedule p.state) (ends Done tt)

-- puts the audit's text, and runs the schedule
unfoldable pub audit_and_run : ProcsFields → List JointFindingFields → Program quiet (Unit {0})
audit_and_run p findings = puts_all (joint_audit_pieces findings) (run_schedule p)

-- puts the audit's text, and runs the schedule if the Boolean is true; otherwise ends with AuditNo
abbrev pub audit_and_run_if :
    Bool → ProcsFields → List JointFindingFields → Program quiet (Unit {0})
audit_and_run_if true p findings = audit_and_run p findings
audit_and_run_if false p findings = audit_only findings

-- what the command does after a joint audit with these findings; the Boolean is `--unaudited`
abbrev pub procs_after_audit :
    Bool → ProcsFields → List JointFindingFields → Program quiet (Unit {0})
procs_after_audit unaudited p findings =
    audit_and_run_if (is_run_allowed findings unaudited) p findings

-- ---- the command

-- Audits processes, and performs the command for the findings. Memory may run out before anything
-- is put, and not after that. The Boolean is `--unaudited`.
unfoldable pub on_procs : Bool → ProcsFields → Program quiet (Unit {0})
on_procs unaudited p = wants (some (AreScheduleFindings p.state) (procs_after_audit unaudited p))

-- `procs FILE`, with or without `--unaudited`
unfoldable pub procs_program : Bool → List ℕ → Program quiet (Unit {0})
procs_program unaudited name = then_with (procs_in_file name) (on_procs unaudited)

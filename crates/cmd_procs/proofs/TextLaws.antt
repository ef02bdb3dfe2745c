-- The program on processes is alike to itself.
use Rattle.std.proofs.Common.{ℕ, Bool, true, false, List, Result, Ok, Err, refl}
use Rattle.m36_model.specs.JointAudit.{JointFindingFields}
use Rattle.m36_isol.proofs.JointFindings.{joint_findings_law}
use Rattle.m36_procs.specs.ProcsFields.{ProcsFields}
use Rattle.m36_procs.specs.ProcsFile.{procs_of_text}
use Rattle.m36_procs.specs.ScheduleText.{schedule_pieces}
use Rattle.m36_procs.specs.declared.fault.ProcsCode.{ProcsCode}
use Rattle.m36_status.specs.declared.status.Status.TheVariants.{Done}
use Rattle.m36_program.specs.Alike.{Alike}
use Rattle.m36_program.specs.Early.{ends}
use Rattle.m36_program.specs.Program.{quiet, Program, some}
use Rattle.m36_program.specs.Readers.{refuses, file_bytes}
use Rattle.m36_program.proofs.AlikeLaws.{alike_wants, alike_then, alike_puts, alike_one, bytes_alike, has_one_text}
use Rattle.cmd_image.specs.ImageAudit.{is_run_allowed, audit_status}
use Rattle.cmd_image.proofs.TextLaws.{ends_alike}
use Rattle.cmd_procs.specs.JointText.{joint_audit_pieces}
use Rattle.cmd_procs.specs.Scheduled.{dbrs_of}
use Rattle.cmd_procs.specs.ProcsProgram.{procs_or_refusal, decode, procs_in_file, AreScheduleFindings, audit_only, run_schedule}
use Rattle.cmd_procs.specs.ProcsProgram.{audit_and_run, audit_and_run_if, procs_after_audit}
use Rattle.cmd_procs.specs.ProcsProgram.{on_procs, procs_program}
use Rattle.cmd_procs.specs.OneText.{ProcsTextLaw}

decoded_alike :
    (name : List ℕ) (given : Result ProcsFields (ℕ × ProcsCode)) → Alike {may = quiet} (procs_or_refusal name given) (procs_or_refusal name given)
unfolding Alike refuses
decoded_alike name (Ok p) = refl
decoded_alike name (Err f) = refl

decode_alike : (name bytes : List ℕ) → Alike {may = quiet} (decode name bytes) (decode name bytes)
unfolding Alike decode
decode_alike name bytes =
    alike_wants (procs_or_refusal name (procs_of_text bytes)) (procs_or_refusal name (procs_of_text bytes)) (decoded_alike name (procs_of_text bytes))

procs_alike : (name : List ℕ) → Alike {may = quiet} (procs_in_file name) (procs_in_file name)
unfolding procs_in_file
procs_alike name =
    alike_then (file_bytes name) (file_bytes name) (decode name) (decode name) (bytes_alike quiet name) (decode_alike name)

audit_alike : (findings : List JointFindingFields) → Alike (audit_only findings) (audit_only findings)
unfolding audit_only
audit_alike findings =
    let last : Program quiet (Unit {0}) = ends (audit_status false) tt in
    alike_puts (joint_audit_pieces findings) last last (ends_alike (audit_status false) tt)

run_alike : (p : ProcsFields) → Alike (run_schedule p) (run_schedule p)
unfolding run_schedule
run_alike p =
    let last : Program quiet (Unit {0}) = ends Done tt in
    alike_puts (schedule_pieces p.schedule p.state) last last (ends_alike Done tt)

both_alike :
    (p : ProcsFields) (findings : List JointFindingFields) → Alike (audit_and_run p findings) (audit_and_run p findings)
unfolding audit_and_run
both_alike p findings = alike_puts (joint_audit_pieces findings) (run_schedule p) (run_schedule p) (run_alike p)

by_alike :
    (run : Bool) (p : ProcsFields) (findings : List JointFindingFields) → Alike (audit_and_run_if run p findings) (audit_and_run_if run p findings)
by_alike true p findings = both_alike p findings
by_alike false p findings = audit_alike findings

on_alike : (unaudited : Bool) (p : ProcsFields) → Alike (on_procs unaudited p) (on_procs unaudited p)
unfolding Alike on_procs
on_alike unaudited p =
    let chosen : Program quiet (Unit {0}) = some (AreScheduleFindings p.state) (procs_after_audit unaudited p) in
    alike_wants chosen chosen (alike_one (AreScheduleFindings p.state) (procs_after_audit unaudited p)
    (λ f g is is'. joint_findings_law.unique p.state.store (dbrs_of p.state) f g is.found is'.found)
    (λ f is. by_alike (is_run_allowed f unaudited) p f))

pub program_alike :
    (unaudited : Bool) (name : List ℕ) → Alike (procs_program unaudited name) (procs_program unaudited name)
unfolding procs_program
program_alike unaudited name =
    alike_then (procs_in_file name) (procs_in_file name) (on_procs unaudited) (on_procs unaudited) (procs_alike name) (on_alike unaudited)

pub procs_text_law : ProcsTextLaw
procs_text_law unaudited name = has_one_text (procs_program unaudited name) refl (program_alike unaudited name)

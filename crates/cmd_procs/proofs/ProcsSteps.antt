-- The command performs its program, since its parts do.
use Rattle.std.proofs.Common.{◌≡◌, ℕ, ◌<◌, Bool, true, false, List, [], ◌∷◌, length, Result, Ok, Err, refl, sym, subst, arith}
use Rattle.m36_model.specs.JointAudit.{JointFindingFields, AreJointFindings}
use Rattle.m36_audit.specs.Joints.{all_found}
use Rattle.m36_audit.specs.declared.joint_verdict.JointFinding.{JointFinding}
use Rattle.m36_procs.specs.ProcsFields.{ProcsFields}
use Rattle.m36_procs.specs.ProcsFile.{procs_of_text}
use Rattle.m36_procs.specs.declared.fault.ProcsCode.{ProcsCode}
use Rattle.m36_world.specs.Seen.{Seen}
use Rattle.m36_status.specs.declared.status.Status.{Status}
use Rattle.m36_status.specs.declared.status.Status.TheVariants.{AuditNo, NoMemory}
use Rattle.m36_program.specs.Goes.{Goes}
use Rattle.m36_program.specs.Performs.{Performs}
use Rattle.m36_program.specs.Program.{quiet}
use Rattle.m36_program.specs.Readers.{bad_file, IsRefusal, file_bytes}
use Rattle.m36_program.proofs.Performing.{goes_done, goes_wants, goes_no_memory, performs_none, performs_some, performs_wants, performs_no_memory, performs_then, performs_stop}
use Rattle.m36_program.proofs.ProgramLaws.{goes_ends}
use Rattle.m36_program.proofs.ReadLaws.{goes_refused}
use Rattle.cmd_image.specs.ImageAudit.{passes, audit_status}
use Rattle.cmd_image.proofs.AuditPuts.{all_put, all_then, all_stop}
use Rattle.cmd_procs.specs.JointText.{joint_audit_pieces}
use Rattle.cmd_procs.specs.Scheduled.{code_of, dbrs_of, SchedulesAreIsolated}
use Rattle.cmd_procs.specs.ProcsProgram.{procs_or_refusal, decode, procs_in_file, AreScheduleFindings, audit_only, run_schedule, audit_and_run, procs_after_audit, on_procs}

-- ---- the processes of a file

pub decode_given :
    (name bytes : List ℕ) (p : ProcsFields) → procs_of_text bytes ≡ Ok p → Goes {may = quiet} (decode name bytes) [] (Ok p)
unfolding decode
decode_given name bytes p is =
    goes_wants (procs_or_refusal name (procs_of_text bytes)) [] (Ok p)
    (subst (λ g. Goes {may = quiet} (procs_or_refusal name g) [] (Ok p)) (sym is) (goes_done quiet p))

pub decode_refused :
    (name bytes : List ℕ) (line : ℕ) (c : ProcsCode) (status : Status) → procs_of_text bytes ≡ Err (line, c)
    → IsRefusal status (bad_file name (code_of c) line)
    → Goes {may = quiet} (decode name bytes) [] (Err status)
unfolding decode
decode_refused name bytes line c status is refuses =
    goes_wants (procs_or_refusal name (procs_of_text bytes)) [] (Err status)
    (subst (λ g. Goes {may = quiet} (procs_or_refusal name g) [] (Err status)) (sym is)
    (goes_refused quiet ProcsFields status (bad_file name (code_of c) line) refuses))

pub decode_no_memory : (name bytes : List ℕ) → Goes {may = quiet} (decode name bytes) [] (Err NoMemory)
unfolding decode
decode_no_memory name bytes = goes_no_memory (procs_or_refusal name (procs_of_text bytes))

pub ruleset decoding = (decode_given, decode_refused, decode_no_memory)

pub procs_read :
    (name bytes : List ℕ) (result : Result ProcsFields Status) (old new : Seen)
    → Performs {may = quiet} (file_bytes name) (Ok bytes) old new → Goes {may = quiet} (decode name bytes) [] result
    → Performs {may = quiet} (procs_in_file name) result old new
unfolding procs_in_file
procs_read name bytes result old new read goes =
    performs_then (file_bytes name) (decode name) bytes result old new new read
    (performs_none (decode name bytes) result new goes)

pub procs_unread :
    (name : List ℕ) (s : Status) (old new : Seen)
    → Performs {may = quiet} (file_bytes name) (Err s) old new
    → Performs {may = quiet} (procs_in_file name) (Err s) old new
unfolding procs_in_file
procs_unread name s old new read = performs_stop (file_bytes name) (decode name) s old new read

pub ruleset reading = (procs_read, procs_unread)

-- ---- the audit alone

pub audit_put :
    (findings : List JointFindingFields) (old new : Seen)
    → Performs (all_put (joint_audit_pieces findings)) (Ok tt) old new
    → Performs (audit_only findings) (Err AuditNo) old new
unfolding audit_only
audit_put findings old new put =
    all_then (joint_audit_pieces findings) _ (Err AuditNo) old new new put
    (performs_none _ (Err AuditNo) new (goes_ends quiet (audit_status false) tt))

pub audit_unput :
    (findings : List JointFindingFields) (s : Status) (old new : Seen)
    → Performs (all_put (joint_audit_pieces findings)) (Err s) old new
    → Performs (audit_only findings) (Err s) old new
unfolding audit_only
audit_unput findings s old new put = all_stop (joint_audit_pieces findings) _ s old new put

pub ruleset refusing = (audit_put, audit_unput)

-- ---- and the run

pub run_put :
    (p : ProcsFields) (findings : List JointFindingFields) (result : Result (Unit {0}) Status) (old between new : Seen)
    → Performs (all_put (joint_audit_pieces findings)) (Ok tt) old between
    → Performs (run_schedule p) result between new
    → Performs (audit_and_run p findings) result old new
unfolding audit_and_run
run_put p findings result old between new put performs =
    all_then (joint_audit_pieces findings) (run_schedule p) result old between new put performs

pub run_unput :
    (p : ProcsFields) (findings : List JointFindingFields) (s : Status) (old new : Seen)
    → Performs (all_put (joint_audit_pieces findings)) (Err s) old new
    → Performs (audit_and_run p findings) (Err s) old new
unfolding audit_and_run
run_unput p findings s old new put = all_stop (joint_audit_pieces findings) (run_schedule p) s old new put

pub ruleset audit_jointly = (run_put, run_unput)

-- ---- by the findings of the audit

-- nothing is found exactly where there are no findings
pub passes_none : (findings : List JointFinding) → length findings ≡ 0 → passes (all_found findings) ≡ true
passes_none [] none = refl
passes_none (f ∷ findings) none = absurd (omega (arith, none))

pub passes_some : (findings : List JointFinding) → 0 < length findings → passes (all_found findings) ≡ false
passes_some [] some = absurd (omega arith)
passes_some (f ∷ findings) some = refl

pub ruleset passing = (passes_none, passes_some)

pub none_of : (findings : List JointFinding) → all_found findings ≡ [] → findings ≡ []
none_of [] e = refl
none_of (f ∷ findings) e = absurd (cc)

pub found_in :
    (unaudited : Bool) (p : ProcsFields) (findings : List JointFindingFields) (result : Result (Unit {0}) Status) (old new : Seen)
    → AreJointFindings p.state.store (dbrs_of p.state) findings
    → (findings ≡ [] → SchedulesAreIsolated p.state)
    → Performs (procs_after_audit unaudited p findings) result old new
    → Performs (on_procs unaudited p) result old new
unfolding on_procs
found_in unaudited p findings result old new found isolated performs =
    performs_wants _ result old new
    (performs_some (AreScheduleFindings p.state) (procs_after_audit unaudited p) findings result old new
    (record { found = found; isolated = isolated }) performs)

pub found_no_memory :
    (unaudited : Bool) (p : ProcsFields) (seen : Seen) → Performs (on_procs unaudited p) (Err NoMemory) seen seen
unfolding on_procs
found_no_memory unaudited p seen = performs_no_memory _ seen

pub ruleset found = (found_in, found_no_memory)

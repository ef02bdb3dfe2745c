-- Each command on a bare image performs its program, since its parts do.
use Rattle.std.proofs.Common.{◌≡◌, ℕ, ◌<◌, List, [], ◌∷◌, length, Result, Ok, Err, refl, sym, subst, arith}
use Rattle.m36_model.specs.Store.{State}
use Rattle.m36_model.specs.Audit.{AreFindings}
use Rattle.m36_audit.specs.Findings.{finding_pairs}
use Rattle.m36_audit.specs.declared.verdict.Finding.{Finding}
use Rattle.m36_image.specs.ImageState.{state_of_text}
use Rattle.m36_image.specs.declared.refusal.Refusal as refusal
use Rattle.m36_world.specs.Seen.{Seen}
use Rattle.m36_status.specs.declared.status.Status.{Status}
use Rattle.m36_status.specs.declared.status.Status.TheVariants.{AuditNo, NoMemory}
use Rattle.m36_program.specs.Early.{result_of_status}
use Rattle.m36_program.specs.Goes.{Goes}
use Rattle.m36_program.specs.Performs.{Performs}
use Rattle.m36_program.specs.Program.{May, quiet}
use Rattle.m36_program.specs.Readers.{bad_file, IsRefusal, file_bytes}
use Rattle.m36_program.proofs.Performing.{goes_done, goes_wants, goes_no_memory, performs_none, performs_some, performs_wants, performs_no_memory, performs_then, performs_stop}
use Rattle.m36_program.proofs.ProgramLaws.{goes_ends}
use Rattle.m36_program.proofs.ReadLaws.{goes_refused}
use Rattle.cmd_image.specs.AuditText.{audit_pieces}
use Rattle.cmd_image.specs.ImageAudit.{code_of, passes, audit_status, IsIsolated}
use Rattle.cmd_image.specs.declared.command.ImageCommand.{ImageCommand}
use Rattle.cmd_image.specs.ImageProgram.{state_or_refusal, decode, image_state, run_from, AreAuditFindings, audit_may_end, audit_only, audit_and_run, command_after_audit, on_image}
use Rattle.cmd_image.proofs.AuditPuts.{all_put, all_then, all_stop}

-- ---- the machine of a file

pub decode_given :
    (may : May) (name bytes : List ℕ) (state : State (List ℕ)) → state_of_text bytes ≡ Ok state
    → Goes {may = may} (decode name bytes) [] (Ok state)
unfolding decode
decode_given may name bytes state is =
    goes_wants (state_or_refusal name (state_of_text bytes)) [] (Ok state)
    (subst (λ g. Goes {may = may} (state_or_refusal name g) [] (Ok state)) (sym is) (goes_done may state))

pub decode_refused :
    (may : May) (name bytes : List ℕ) (f : refusal.Refusal) (status : Status) → state_of_text bytes ≡ Err f
    → IsRefusal status (bad_file name (code_of f.code) f.line)
    → Goes {may = may} (decode name bytes) [] (Err status)
unfolding decode
decode_refused may name bytes f status is refuses =
    goes_wants (state_or_refusal name (state_of_text bytes)) [] (Err status)
    (subst (λ g. Goes {may = may} (state_or_refusal name g) [] (Err status)) (sym is)
    (goes_refused may (State (List ℕ)) status (bad_file name (code_of f.code) f.line) refuses))

pub decode_starved : (may : May) (name bytes : List ℕ) → Goes {may = may} (decode name bytes) [] (Err NoMemory)
unfolding decode
decode_starved may name bytes = goes_no_memory (state_or_refusal name (state_of_text bytes))

pub ruleset decoding = (decode_given, decode_refused, decode_starved)

pub state_read :
    (may : May) (name bytes : List ℕ) (result : Result (State (List ℕ)) Status) (old new : Seen)
    → Performs {may = may} (file_bytes name) (Ok bytes) old new → Goes {may = may} (decode name bytes) [] result
    → Performs {may = may} (image_state name) result old new
unfolding image_state
state_read may name bytes result old new read goes =
    performs_then (file_bytes name) (decode name) bytes result old new new read
    (performs_none (decode name bytes) result new goes)

pub state_unread :
    (may : May) (name : List ℕ) (s : Status) (old new : Seen)
    → Performs {may = may} (file_bytes name) (Err s) old new
    → Performs {may = may} (image_state name) (Err s) old new
unfolding image_state
state_unread may name s old new read = performs_stop (file_bytes name) (decode name) s old new read

pub ruleset reading = (state_read, state_unread)

-- ---- the audit

audit_ends :
    (findings : List (ℕ × ℕ)) (old new : Seen)
    → Performs (all_put (audit_pieces findings)) (Ok tt) old new
    → Performs (audit_only findings) (result_of_status (audit_status (passes findings))) old new
unfolding audit_only
audit_ends findings old new put =
    let status = audit_status (passes findings) in
    all_then (audit_pieces findings) _ (result_of_status status) old new new put
    (performs_none _ (result_of_status status) new (goes_ends quiet status (audit_may_end (passes findings))))

no_pairs : (findings : List Finding) → length findings ≡ 0 → result_of_status (audit_status (passes (finding_pairs findings))) ≡ Ok tt
no_pairs [] none = refl
no_pairs (f ∷ findings) none = absurd (omega (arith, none))

some_pairs : (findings : List Finding) → 0 < length findings → result_of_status (audit_status (passes (finding_pairs findings))) ≡ Err AuditNo
some_pairs [] some = absurd (omega arith)
some_pairs (f ∷ findings) some = refl

pub audit_passes :
    (findings : List Finding) (old new : Seen) → length findings ≡ 0
    → Performs (all_put (audit_pieces (finding_pairs findings))) (Ok tt) old new
    → Performs (audit_only (finding_pairs findings)) (Ok tt) old new
audit_passes findings old new none put =
    subst (λ r. Performs (audit_only (finding_pairs findings)) r old new) (no_pairs findings none)
    (audit_ends (finding_pairs findings) old new put)

pub audit_fails :
    (findings : List Finding) (old new : Seen) → 0 < length findings
    → Performs (all_put (audit_pieces (finding_pairs findings))) (Ok tt) old new
    → Performs (audit_only (finding_pairs findings)) (Err AuditNo) old new
audit_fails findings old new some put =
    subst (λ r. Performs (audit_only (finding_pairs findings)) r old new) (some_pairs findings some)
    (audit_ends (finding_pairs findings) old new put)

pub audit_unput :
    (findings : List Finding) (s : Status) (old new : Seen)
    → Performs (all_put (audit_pieces (finding_pairs findings))) (Err s) old new
    → Performs (audit_only (finding_pairs findings)) (Err s) old new
unfolding audit_only
audit_unput findings s old new put = all_stop (audit_pieces (finding_pairs findings)) _ s old new put

pub ruleset auditing = (audit_passes, audit_fails, audit_unput)

-- ---- and the run

pub run_unput :
    (steps : ℕ) (state : State (List ℕ)) (findings : List (ℕ × ℕ)) (s : Status) (old new : Seen)
    → Performs (all_put (audit_pieces findings)) (Err s) old new
    → Performs (audit_and_run steps state findings) (Err s) old new
unfolding audit_and_run
run_unput steps state findings s old new put =
    all_stop (audit_pieces findings) (run_from 0 steps state) s old new put

pub run_audited :
    (steps : ℕ) (state image : State (List ℕ)) (findings : List (ℕ × ℕ)) (result : Result (Unit {0}) Status) (old between new : Seen)
    → state ≡ image → Performs (all_put (audit_pieces findings)) (Ok tt) old between
    → Performs (run_from 0 steps state) result between new
    → Performs (audit_and_run steps image findings) result old new
unfolding audit_and_run
run_audited steps state image findings result old between new is put performs =
    all_then (audit_pieces findings) (run_from 0 steps image) result old between new put
    (subst (λ s. Performs (run_from 0 steps s) result between new) is performs)

pub ruleset audit_core = (run_unput, run_audited)

-- ---- by the findings of the audit

pub found_in :
    (command : ImageCommand) (state : State (List ℕ)) (findings : List (ℕ × ℕ)) (result : Result (Unit {0}) Status) (old new : Seen)
    → AreFindings state.store state.regs.dbr findings
    → (findings ≡ [] → IsIsolated state.store state.regs.dbr)
    → Performs (command_after_audit command state findings) result old new
    → Performs (on_image command state) result old new
unfolding on_image
found_in command state findings result old new found isolated performs =
    performs_wants _ result old new
    (performs_some (AreAuditFindings state) (command_after_audit command state) findings result old new
    (record { found = found; isolated = isolated }) performs)

pub image_starved :
    (command : ImageCommand) (state : State (List ℕ)) (seen : Seen) → Performs (on_image command state) (Err NoMemory) seen seen
unfolding on_image
image_starved command state seen = performs_no_memory _ seen

pub ruleset found = (found_in, image_starved)

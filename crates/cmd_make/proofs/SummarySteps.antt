-- The lines that are put of a system, one after another, and the run between them.
use Rattle.std.proofs.Common.{◌≡◌, ℕ, ◌<◌, false, List, [], ◌∷◌, length, Some, Result, Ok, Err, refl, sym, ap, subst}
use Rattle.std.proofs.Common.{◌∙◌, arith}
use Rattle.m36_text.specs.Lines.{as_line}
use Rattle.m36_audit.specs.Findings.{finding_pairs}
use Rattle.m36_audit.specs.declared.verdict.Finding.{Finding}
use Rattle.m36_desc.specs.Fields.{DbrFields}
use Rattle.m36_model.specs.Audit.{AreFindings}
use Rattle.m36_model.specs.Registers.{RegsFields}
use Rattle.m36_super.specs.Library.{Library}
use Rattle.m36_super.specs.BootedRun.{Booted}
use Rattle.m36_super.specs.SuperFields.{SuperFields, booted_of}
use Rattle.m36_super.specs.BootResult.{IsBooted}
use Rattle.m36_world.specs.Seen.{Seen}
use Rattle.m36_status.specs.declared.status.Status.{Status}
use Rattle.m36_status.specs.declared.status.Status.TheVariants.{AuditNo, NoMemory}
use Rattle.m36_program.specs.Early.{result_of_status, ends}
use Rattle.m36_program.specs.Goes.{Goes}
use Rattle.m36_program.specs.Performs.{Performs}
use Rattle.m36_program.specs.Program.{quiet, Program, puts, puts_all}
use Rattle.m36_program.specs.Readers.{put_one}
use Rattle.m36_program.proofs.Performing.{performs_none, performs_some, performs_wants, performs_no_memory}
use Rattle.m36_program.proofs.Performing.{performs_then, performs_stop, performs_put, performs_unput}
use Rattle.m36_program.proofs.ProgramLaws.{goes_ends}
use Rattle.cmd_image.specs.AuditText.{audit_pieces}
use Rattle.cmd_image.specs.ImageAudit.{passes, audit_status}
use Rattle.cmd_folder.specs.declared.finish.Finish.{Finish}
use Rattle.cmd_folder.specs.RunText.{finish_line, finish_status}
use Rattle.cmd_folder.specs.BootedSystems.{IsFresh}
use Rattle.cmd_folder.proofs.FolderBoots.{fresh_next}
use Rattle.cmd_image.specs.ImageProgram.{audit_may_end}
use Rattle.cmd_image.proofs.AuditPuts.{all_put, put_more, all_then, all_stop}
use Rattle.cmd_folder.specs.OnFolder.{AreFolderFindings}
use Rattle.cmd_folder.specs.RunProgram.{finish_may_end}
use Rattle.cmd_folder.proofs.FolderSteps.{found_passes}
use Rattle.cmd_make.specs.MakeProgram.{put_summary, run_and_summarise, runs_or_ends, make_after_audit, on_system, on_booted}
use Rattle.cmd_make.specs.QuietRun.{RunSummary, run_from}
use Rattle.cmd_make.specs.Summary.{run_limit, segment_count, segments_line, head_pieces, sum_line}

-- ---- a line, and what follows it

line_put :
    (text line : List ℕ) (rest : Program quiet (Unit {0})) (result : Result (Unit {0}) Status) (old between new : Seen)
    → text ≡ line → Performs {may = quiet} (put_one (as_line text)) (Ok tt) old between
    → Performs rest result between new
    → Performs (puts (as_line line) rest) result old new
line_put text line rest result old between new is put performs =
    performs_put (as_line line) rest result old between new
    (subst (λ t. Performs {may = quiet} (put_one (as_line t)) (Ok tt) old between) is put) performs

line_unput :
    (text line : List ℕ) (rest : Program quiet (Unit {0})) (s : Status) (old new : Seen)
    → text ≡ line → Performs {may = quiet} (put_one (as_line text)) (Err s) old new
    → Performs (puts (as_line line) rest) (Err s) old new
line_unput text line rest s old new is put =
    performs_unput (as_line line) rest s old new
    (subst (λ t. Performs {may = quiet} (put_one (as_line t)) (Err s) old new) is put)

-- ---- the lines before the run

pub head_put :
    (text : List ℕ) (count : ℕ) (findings : List (ℕ × ℕ)) (result : Result (Unit {0}) Status) (old between new : Seen)
    → text ≡ segments_line count → Performs {may = quiet} (put_one (as_line text)) (Ok tt) old between
    → Performs (all_put (audit_pieces findings)) result between new
    → Performs (all_put (head_pieces count findings)) result old new
head_put text count findings result old between new is put performs =
    subst (λ p. Performs p result old new) (sym (put_more (as_line (segments_line count)) (audit_pieces findings)))
    (line_put text (segments_line count) (all_put (audit_pieces findings)) result old between new is put performs)

pub head_unput :
    (text : List ℕ) (count : ℕ) (findings : List (ℕ × ℕ)) (s : Status) (old new : Seen)
    → text ≡ segments_line count → Performs {may = quiet} (put_one (as_line text)) (Err s) old new
    → Performs (all_put (head_pieces count findings)) (Err s) old new
head_unput text count findings s old new is put =
    subst (λ p. Performs p (Err s) old new) (sym (put_more (as_line (segments_line count)) (audit_pieces findings)))
    (line_unput text (segments_line count) (all_put (audit_pieces findings)) s old new is put)

pub ruleset heading = (head_put, head_unput)

-- ---- the lines after it

-- the status of the end
abbrev ended : Finish → Program quiet (Unit {0})
ended how = ends (finish_status (Some how)) (finish_may_end how)

pub sum_put :
    (text : List ℕ) (regs : RegsFields) (how : Finish) (status : Status) (result : Result (Unit {0}) Status)
    (old new : Seen)
    → text ≡ sum_line regs → Performs {may = quiet} (put_one (as_line text)) (Ok tt) old new
    → status ≡ finish_status (Some how) → result ≡ result_of_status status
    → Performs (puts (as_line (sum_line regs)) (ended how)) result old new
sum_put text regs how status result old new is put status_is result_is =
    line_put text (sum_line regs) (ended how) result old new new is put
    (performs_none (ended how) result new
    (subst (λ r. Goes (ended how) [] r) (sym (result_is ∙ ap result_of_status status_is))
    (goes_ends quiet (finish_status (Some how)) (finish_may_end how))))

pub sum_unput :
    (text : List ℕ) (regs : RegsFields) (how : Finish) (s : Status) (old new : Seen)
    → text ≡ sum_line regs → Performs {may = quiet} (put_one (as_line text)) (Err s) old new
    → Performs (puts (as_line (sum_line regs)) (ended how)) (Err s) old new
sum_unput text regs how s old new is put = line_unput text (sum_line regs) (ended how) s old new is put

pub ruleset summing = (sum_put, sum_unput)

summed_is :
    (ran : RunSummary) → put_summary ran ≡ puts (as_line (finish_line ran.how ran.steps))
    (puts (as_line (sum_line ran.regs)) (ended ran.how))
unfolding put_summary puts_all
summed_is ran = refl

pub end_put :
    (text : List ℕ) (ran : RunSummary) (result : Result (Unit {0}) Status) (old between new : Seen)
    → text ≡ finish_line ran.how ran.steps → Performs {may = quiet} (put_one (as_line text)) (Ok tt) old between
    → Performs (puts (as_line (sum_line ran.regs)) (ended ran.how)) result between new
    → Performs (put_summary ran) result old new
end_put text ran result old between new is put performs =
    subst (λ p. Performs p result old new) (sym (summed_is ran))
    (line_put text (finish_line ran.how ran.steps) _ result old between new is put performs)

pub end_unput :
    (text : List ℕ) (ran : RunSummary) (s : Status) (old new : Seen)
    → text ≡ finish_line ran.how ran.steps → Performs {may = quiet} (put_one (as_line text)) (Err s) old new
    → Performs (put_summary ran) (Err s) old new
end_unput text ran s old new is put =
    subst (λ p. Performs p (Err s) old new) (sym (summed_is ran))
    (line_unput text (finish_line ran.how ran.steps) _ s old new is put)

-- ---- the run

run_then :
    (lib : Library) (steps : ℕ) (first : Booted) (ran : RunSummary) (result : Result (Unit {0}) Status) (old new : Seen)
    → Goes (run_from lib 0 steps first) [] (Ok ran) → Performs (put_summary ran) result old new
    → Performs (run_and_summarise lib steps first) result old new
unfolding run_and_summarise
run_then lib steps first ran result old new goes performs =
    performs_then (run_from lib 0 steps first) put_summary ran result old old new
    (performs_none (run_from lib 0 steps first) (Ok ran) old goes) performs

-- a run that has left these registers
abbrev left_with : Finish → ℕ → RegsFields → RunSummary
left_with how steps regs = record { how = how; steps = steps; regs = regs }

pub run_ended :
    (lib : Library) (limit : ℕ) (first : Booted) (how : Finish) (steps : ℕ) (regs lent : RegsFields)
    (result : Result (Unit {0}) Status)
    (old new : Seen)
    → Goes (run_from lib 0 limit first) [] (Ok (left_with how steps regs)) → lent ≡ regs
    → Performs (put_summary (left_with how steps lent)) result old new
    → Performs (run_and_summarise lib limit first) result old new
run_ended lib limit first how steps regs lent result old new goes is performs =
    run_then lib limit first (left_with how steps regs) result old new goes
    (subst (λ r. Performs (put_summary (left_with how steps r)) result old new) is performs)

pub run_stops :
    (lib : Library) (steps : ℕ) (first : Booted) (s : Status) (seen : Seen)
    → Goes (run_from lib 0 steps first) [] (Err s) → Performs (run_and_summarise lib steps first) (Err s) seen seen
unfolding run_and_summarise
run_stops lib steps first s seen goes =
    performs_stop (run_from lib 0 steps first) put_summary s seen seen
    (performs_none (run_from lib 0 steps first) (Err s) seen goes)

pub run_where_none :
    (findings : List Finding) (lib : Library) (first : Booted) (result : Result (Unit {0}) Status) (old new : Seen)
    → length findings ≡ 0 → Performs (run_and_summarise lib run_limit first) result old new
    → Performs (runs_or_ends (passes (finding_pairs findings)) lib first) result old new
run_where_none [] lib first result old new none performs = performs
run_where_none (f ∷ findings) lib first result old new none performs = absurd (omega (arith, none))

pub end_where_some :
    (findings : List Finding) (lib : Library) (first : Booted) (seen : Seen)
    → 0 < length findings → Performs (runs_or_ends (passes (finding_pairs findings)) lib first) (Err AuditNo) seen seen
end_where_some [] lib first seen some = absurd (omega (arith, some))
end_where_some (f ∷ findings) lib first seen some =
    performs_none (ends (audit_status false) (audit_may_end false)) (Err AuditNo) seen
    (goes_ends quiet (audit_status false) (audit_may_end false))

pub ruleset deciding = (run_where_none, end_where_some)

-- ---- by the findings of the audit

pub found_put :
    (count : ℕ) (lib : Library) (first : Booted) (findings : List (ℕ × ℕ)) (result : Result (Unit {0}) Status)
    (old between new : Seen)
    → count ≡ segment_count lib → Performs (all_put (head_pieces count findings)) (Ok tt) old between
    → Performs (runs_or_ends (passes findings) lib first) result between new
    → Performs (make_after_audit lib first findings) result old new
unfolding make_after_audit
found_put count lib first findings result old between new counts put performs =
    all_then (head_pieces (segment_count lib) findings)
    (runs_or_ends (passes findings) lib first) result old between new
    (subst (λ n. Performs (all_put (head_pieces n findings)) (Ok tt) old between) counts put) performs

pub found_unput :
    (count : ℕ) (lib : Library) (first : Booted) (findings : List (ℕ × ℕ)) (s : Status) (old new : Seen)
    → count ≡ segment_count lib → Performs (all_put (head_pieces count findings)) (Err s) old new
    → Performs (make_after_audit lib first findings) (Err s) old new
unfolding make_after_audit
found_unput count lib first findings s old new counts put =
    all_stop (head_pieces (segment_count lib) findings) (runs_or_ends (passes findings) lib first) s old new
    (subst (λ n. Performs (all_put (head_pieces n findings)) (Err s) old new) counts put)

pub found_in :
    (system : SuperFields) (denied : List (List ℕ)) (findings : List (ℕ × ℕ)) (result : Result (Unit {0}) Status)
    (old new : Seen)
    → IsFresh system → AreFindings system.core system.regs.dbr findings
    → Performs (make_after_audit system.lib (booted_of system) findings) result old new
    → Performs (on_booted (record { lib = system.lib; denied = denied })) result old new
unfolding on_booted on_system
found_in system denied findings result old new fresh found performs =
    let so = subst (λ (d : DbrFields). AreFindings system.core d findings) fresh.stands.dbr found in
    performs_some (IsBooted system.lib) (on_system system.lib) system result old new fresh
    (performs_wants _ result old new
    (performs_some (AreFolderFindings system.lib system)
    (make_after_audit system.lib (booted_of system)) findings result old new
    (record { found = so; passes = found_passes system.lib system findings fresh so }) performs))

-- the audit ran out of memory
pub audit_starved :
    (system : SuperFields) (denied : List (List ℕ)) (seen : Seen)
    → IsFresh system → Performs (on_booted (record { lib = system.lib; denied = denied })) (Err NoMemory) seen seen
unfolding on_booted on_system
audit_starved system denied seen fresh =
    performs_some (IsBooted system.lib) (on_system system.lib) system (Err NoMemory) seen seen fresh
    (performs_no_memory _ seen)

pub ruleset found = (fresh_next, audit_starved)

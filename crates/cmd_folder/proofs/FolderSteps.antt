-- What is read and booted, the audit's text and the run, one after another.
use Rattle.std.proofs.Common.{◌≡◌, ℕ, ◌+◌, List, [], drop, Option, Some, slice_get, Result, Ok, Err, refl, sym, ap, subst, ◌∙◌}
use Rattle.std.proofs.lemmas.Option.{slice_get_within, get_or_from_slice_get}
use Rattle.m36_world.specs.Seen.{Seen}
use Rattle.m36_desc.specs.Fields.{DbrFields}
use Rattle.m36_dir.specs.Fields.{SegmentFields}
use Rattle.m36_model.specs.Audit.{AreFindings}
use Rattle.m36_model.specs.BootedCore.{booted_dbr}
use Rattle.m36_isol.proofs.Findings.{findings_law}
use Rattle.m36_super.specs.Library.{Library}
use Rattle.m36_super.specs.BootedRun.{Booted}
use Rattle.m36_super.specs.SuperFields.{SuperFields, booted_of}
use Rattle.m36_super.specs.BootResult.{IsBooted}
use Rattle.m36_status.specs.declared.refusal.Refusal.{Refusal}
use Rattle.m36_status.specs.declared.status.Status.{Status}
use Rattle.m36_status.specs.declared.status.Status.TheVariants.{NoMemory}
use Rattle.m36_status.specs.Refusing.{IsRuleResult}
use Rattle.m36_program.specs.Performs.{Performs, Leads}
use Rattle.m36_program.specs.Program.{May, quiet, Program}
use Rattle.m36_program.proofs.Performing.{performs_some, performs_wants, performs_no_memory, performs_then, performs_stop}
use Rattle.m36_files.specs.declared.access.Access.{Access}
use Rattle.m36_files.specs.Deciding.{rule_program, refusal_to_status}
use Rattle.m36_files.specs.EachFile.{read_and_append, read_each}
use Rattle.m36_files.specs.FileReaders.{file_words}
use Rattle.m36_files.specs.Catalogs.{catalog_access}
use Rattle.m36_files.proofs.DecidingLaws.{rule_given}
use Rattle.m36_files.proofs.EachLaws.{each_next, each_stop}
use Rattle.cmd_image.specs.AuditText.{audit_pieces}
use Rattle.cmd_folder.specs.declared.command.FolderCommand.{FolderCommand}
use Rattle.cmd_folder.specs.declared.booting.BootedFolder.{BootedFolder}
use Rattle.cmd_folder.specs.Folder.{FolderFields, folder_with, boot_result}
use Rattle.cmd_folder.specs.Promise.{PassesFolderAudit}
use Rattle.cmd_folder.specs.BootedSystems.{IsFresh}
use Rattle.cmd_folder.specs.BootedSystems as old_systems
use Rattle.cmd_folder.proofs.FolderBoots.{fresh_next}
use Rattle.cmd_folder.proofs.AuditKept.{passes_booted}
use Rattle.cmd_image.proofs.AuditPuts.{all_put, all_then, all_stop}
use Rattle.cmd_folder.specs.FolderProgram.{segment_words, files_booted, folder_given, folder_program}
use Rattle.cmd_folder.specs.OnFolder.{AreFolderFindings, audit_and_run, command_after_audit, on_system, on_folder}
use Rattle.cmd_folder.specs.RunProgram.{RunContext, run_from}
use Rattle.cmd_folder.specs.Systems.{folder_result}

-- ---- the file of a segment

pub segment_read :
    (may : May) (files : List (List ℕ)) (s : SegmentFields) (name : List ℕ) (result : Result (List (List ℕ)) Status) (old new : Seen)
    → name ≡ s.file → Performs {may = may} (read_and_append file_words files name) result old new
    → Performs {may = may} (read_and_append segment_words files s) result old new
unfolding read_and_append segment_words
segment_read may files s name result old new is performs =
    subst (λ (n : List ℕ). Performs {may = may} (read_and_append file_words files n) result old new) is performs

pub files_more :
    (may : May) (segments : List SegmentFields) (i : ℕ) (s : SegmentFields) (name : List ℕ) (files more : List (List ℕ)) (first : Program may (List (List ℕ)))
    (old between new : Seen)
    → slice_get segments i ≡ Some s → name ≡ s.file
    → Leads (read_each segment_words files (drop i segments)) first old between
    → Performs {may = may} (read_and_append file_words files name) (Ok more) between new
    → Leads (read_each segment_words more (drop (i + 1) segments)) first old new
files_more may segments i s name files more first old between new at is left performs =
    each_next segment_words files more segments i s first old between new (slice_get_within segments i s at) (sym (get_or_from_slice_get segments i s s at)) left
    (segment_read may files s name (Ok more) between new is performs)

pub files_stop :
    (may : May) (segments : List SegmentFields) (i : ℕ) (s : SegmentFields) (name : List ℕ) (files : List (List ℕ)) (first : Program may (List (List ℕ)))
    (status : Status) (old between new : Seen)
    → slice_get segments i ≡ Some s → name ≡ s.file
    → Leads (read_each segment_words files (drop i segments)) first old between
    → Performs {may = may} (read_and_append file_words files name) (Err status) between new
    → Performs first (Err status) old new
files_stop may segments i s name files first status old between new at is left performs =
    each_stop segment_words files segments i s first status old between new (slice_get_within segments i s at) (sym (get_or_from_slice_get segments i s s at)) left
    (segment_read may files s name (Err status) between new is performs)

-- ---- booting

given_same :
    (given : Result BootedFolder Refusal) → refusal_to_status (old_systems.folder_result given) ≡ folder_result (refusal_to_status given)
given_same (Ok booted) = refl
given_same (Err refusal) = refl

pub files_given :
    (may : May) (access : Access) (files : List (List ℕ)) (given : Result BootedFolder Refusal) (result : Result BootedFolder Status) (old new : Seen)
    → Performs {may = may} (read_each segment_words [] access.catalog.segments) (Ok files) old new
    → IsRuleResult (old_systems.folder_result given) (boot_result (folder_with access files)) → result ≡ refusal_to_status given
    → Performs {may = may} (files_booted access) (folder_result result) old new
unfolding files_booted
files_given may access files given result old new performs gives is =
    performs_then (read_each segment_words [] access.catalog.segments) (λ files. rule_program (boot_result (folder_with access files))) files (folder_result result) old new new performs
    (rule_given may (old_systems.folder_result given) (boot_result (folder_with access files)) (folder_result result) new gives (ap folder_result is ∙ sym (given_same given)))

pub files_not :
    (may : May) (access : Access) (status : Status) (old new : Seen)
    → Performs {may = may} (read_each segment_words [] access.catalog.segments) (Err status) old new
    → Performs {may = may} (files_booted access) (Err status) old new
unfolding files_booted
files_not may access status old new performs =
    performs_stop (read_each segment_words [] access.catalog.segments) (λ files. rule_program (boot_result (folder_with access files))) status old new performs

pub folder_read :
    (may : May) (user : Option (List ℕ)) (access : Access) (result : Result FolderFields Status) (old between new : Seen)
    → Performs {may = may} (catalog_access user) (Ok access) old between → Performs {may = may} (files_booted access) result between new
    → Performs {may = may} (folder_given user) result old new
unfolding folder_given
folder_read may user access result old between new one two =
    performs_then (catalog_access user) (λ access. files_booted access) access result old between new one two

pub folder_not :
    (may : May) (user : Option (List ℕ)) (status : Status) (old new : Seen)
    → Performs {may = may} (catalog_access user) (Err status) old new → Performs {may = may} (folder_given user) (Err status) old new
unfolding folder_given
folder_not may user status old new one = performs_stop (catalog_access user) (λ access. files_booted access) status old new one

-- ---- the audit's text, and the run

pub run_follows :
    (run : RunContext) (steps : ℕ) (first : Booted) (findings : List (ℕ × ℕ)) (result : Result (Unit {0}) Status) (old between new : Seen)
    → Performs (all_put (audit_pieces findings)) (Ok tt) old between → Performs (run_from run 0 steps first) result between new
    → Performs (audit_and_run run steps first findings) result old new
unfolding audit_and_run
run_follows run steps first findings result old between new put performs =
    all_then (audit_pieces findings) (run_from run 0 steps first) result old between new put performs

pub run_unput :
    (run : RunContext) (steps : ℕ) (first : Booted) (findings : List (ℕ × ℕ)) (status : Status) (old new : Seen)
    → Performs (all_put (audit_pieces findings)) (Err status) old new
    → Performs (audit_and_run run steps first findings) (Err status) old new
unfolding audit_and_run
run_unput run steps first findings status old new put =
    all_stop (audit_pieces findings) (run_from run 0 steps first) status old new put

pub ruleset runs = (run_follows, run_unput)

-- ---- by the findings of the audit of a booted system

pub found_passes :
    (lib : Library) (system : SuperFields) (findings : List (ℕ × ℕ))
    → IsBooted lib system → AreFindings system.core booted_dbr findings → findings ≡ [] → PassesFolderAudit lib
found_passes lib system findings booted found none =
    passes_booted lib system booted (findings_law.sound system.core booted_dbr (subst (AreFindings system.core booted_dbr) none found))

pub found_in :
    (command : FolderCommand) (system : SuperFields) (denied : List (List ℕ)) (findings : List (ℕ × ℕ)) (result : Result (Unit {0}) Status) (old new : Seen)
    → IsFresh system → AreFindings system.core system.regs.dbr findings
    → Performs (command_after_audit command (record { lib = system.lib; denied = denied }) (booted_of system) findings) result old new
    → Performs (on_folder command (record { lib = system.lib; denied = denied })) result old new
unfolding on_folder on_system
found_in command system denied findings result old new fresh found performs =
    let given : FolderFields = record { lib = system.lib; denied = denied } in
    let so = subst (λ (d : DbrFields). AreFindings system.core d findings) fresh.stands.dbr found in
    performs_some (IsBooted system.lib) (on_system command given) system result old new fresh
    (performs_wants _ result old new
    (performs_some (AreFolderFindings system.lib system) (command_after_audit command given (booted_of system)) findings result old new
    (record { found = so; passes = found_passes system.lib system findings fresh so }) performs))

-- the audit ran out of memory
pub audit_starved :
    (command : FolderCommand) (system : SuperFields) (denied : List (List ℕ)) (seen : Seen)
    → IsFresh system → Performs (on_folder command (record { lib = system.lib; denied = denied })) (Err NoMemory) seen seen
unfolding on_folder on_system
audit_starved command system denied seen fresh =
    performs_some (IsBooted system.lib) (on_system command (record { lib = system.lib; denied = denied })) system (Err NoMemory) seen seen fresh
    (performs_no_memory _ seen)

pub ruleset found = (fresh_next, audit_starved)

-- ---- a command

pub folder_answered :
    (command : FolderCommand) (user : Option (List ℕ)) (given : FolderFields) (result : Result (Unit {0}) Status) (old between new : Seen)
    → Performs {may = quiet} (folder_given user) (Ok given) old between → Performs (on_folder command given) result between new
    → Performs (folder_program command user) result old new
unfolding folder_program
folder_answered command user given result old between new one two =
    performs_then (folder_given user) (on_folder command) given result old between new one two

pub folder_refused :
    (command : FolderCommand) (user : Option (List ℕ)) (status : Status) (old new : Seen)
    → Performs {may = quiet} (folder_given user) (Err status) old new → Performs (folder_program command user) (Err status) old new
unfolding folder_program
folder_refused command user status old new one = performs_stop (folder_given user) (on_folder command) status old new one

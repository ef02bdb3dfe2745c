-- What `make SEED` does, as a program: it makes the files from the seed, writes them in order,
-- boots them from memory without an event, audits the system, and runs it if the audit passes.
use Rattle.std.specs.Prelude.{ℕ, refl, Bool, true, false, List, Some}
use Rattle.m36_super.specs.Library.{Library}
use Rattle.m36_super.specs.BootedRun.{Booted}
use Rattle.m36_super.specs.SuperFields.{SuperFields, booted_of}
use Rattle.m36_super.specs.BootResult.{IsBooted}
use Rattle.m36_status.specs.declared.setting.Set.{Set}
use Rattle.m36_program.specs.Early.{ends}
use Rattle.m36_program.specs.Program.{quiet, Program, puts_all, some, wants, then_with}
use Rattle.cmd_image.specs.ImageAudit.{passes, audit_status}
use Rattle.cmd_folder.specs.Folder.{FolderFields}
use Rattle.cmd_folder.specs.RunText.{finish_status}
use Rattle.m36_files.specs.Deciding.{rule_program}
use Rattle.m36_files.specs.Writing.{may_write_files}
use Rattle.cmd_image.specs.ImageProgram.{audit_may_end}
use Rattle.cmd_folder.specs.OnFolder.{AreFolderFindings}
use Rattle.cmd_folder.specs.RunProgram.{finish_may_end}
use Rattle.cmd_tools.specs.Reporting.{writes_all}
use Rattle.cmd_make.specs.Making.{files_of_seed}
use Rattle.cmd_make.specs.Made.{boot_files}
use Rattle.cmd_make.specs.QuietRun.{RunSummary, run_from}
use Rattle.cmd_make.specs.Summary.{run_limit, head_pieces, end_pieces, segment_count}
use Rattle.cmd_make.specs.Within.{widen}

-- ---- the lines of a system

-- puts the lines after a run, and ends with its status
unfoldable pub put_summary : RunSummary → Program quiet (Unit {0})
put_summary summary_of_run =
    puts_all (end_pieces (Some summary_of_run.how) summary_of_run.steps summary_of_run.regs)
    (ends (finish_status (Some summary_of_run.how)) (finish_may_end summary_of_run.how))

-- runs the system for at most `steps` steps, and puts the lines after the run
unfoldable pub run_and_summarise : Library → ℕ → Booted → Program quiet (Unit {0})
run_and_summarise lib steps first = then_with (run_from lib 0 steps first) put_summary

-- runs the system if the Boolean is true (the audit passes), otherwise ends with AuditNo
abbrev pub runs_or_ends : Bool → Library → Booted → Program quiet (Unit {0})
runs_or_ends true lib first = run_and_summarise lib run_limit first
runs_or_ends false lib first = ends (audit_status false) (audit_may_end false)

-- Puts the lines before the run, and runs the system exactly if there are no findings.
unfoldable pub make_after_audit : Library → Booted → List (ℕ × ℕ) → Program quiet (Unit {0})
make_after_audit lib first findings =
    puts_all (head_pieces (segment_count lib) findings) (runs_or_ends (passes findings) lib first)

-- Audits the system. Memory may run out here, and after that only in a link service.
unfoldable pub on_system : Library → SuperFields → Program quiet (Unit {0})
on_system lib system =
    wants (some (AreFolderFindings lib system) (make_after_audit lib (booted_of system)))

-- What is done with the system that the library boots to. There is at most one, by `system` of
-- `BootedLaw` of `cmd_folder`.
unfoldable pub on_booted : FolderFields → Program quiet (Unit {0})
on_booted given = some (IsBooted given.lib) (on_system given.lib)

-- ---- the command

-- Boots the files from memory, or refuses them, and continues with the system. Memory may run out.
unfoldable pub boot_made : List Set → Program quiet (Unit {0})
boot_made sets = then_with (boot_files sets) on_booted

-- Writes the files in order, and then boots them.
unfoldable pub write_and_boot : List Set → Program may_write_files (Unit {0})
write_and_boot sets = writes_all refl sets (widen (boot_made sets))

-- `make SEED`
unfoldable pub make_program : ℕ → Program may_write_files (Unit {0})
make_program seed = then_with (rule_program (files_of_seed seed)) write_and_boot

-- What `audit`, `run` and `trace` do with a booted system, as programs: audit its core, and run it
-- if the audit passes or `--unaudited` is given.
use Rattle.std.specs.Prelude.{ℕ, ◌≡◌, Bool, true, false, List, []}
use Rattle.m36_model.specs.Audit.{AreFindings}
use Rattle.m36_model.specs.BootedCore.{booted_dbr}
use Rattle.m36_super.specs.Library.{Library}
use Rattle.m36_super.specs.BootedRun.{Booted}
use Rattle.m36_super.specs.SuperFields.{SuperFields, booted_of}
use Rattle.m36_super.specs.BootResult.{IsBooted}
use Rattle.m36_program.specs.Program.{quiet, Program, puts_all, some, wants}
use Rattle.cmd_image.specs.AuditText.{audit_pieces}
use Rattle.cmd_image.specs.ImageAudit.{is_run_allowed}
use Rattle.cmd_folder.specs.declared.command.FolderCommand.{FolderCommand}
use Rattle.cmd_folder.specs.declared.command.FolderCommand.TheVariants.{Audit, Run, Trace}
use Rattle.cmd_folder.specs.declared.command.FolderRun.{FolderRun}
use Rattle.cmd_folder.specs.declared.command.RunOutput.{RunOutput}
use Rattle.cmd_folder.specs.declared.command.RunOutput.TheVariants as output
use Rattle.cmd_folder.specs.Folder.{FolderFields}
use Rattle.cmd_folder.specs.Promise.{PassesFolderAudit}
use Rattle.cmd_image.specs.ImageProgram.{audit_only}
use Rattle.cmd_folder.specs.RunProgram.{RunContext, run_from}

-- ---- the audit

-- The findings of the audit of a booted core, each the number of its condition and its place. If
-- there are none, the tables of core isolate each ring in each state of a run up to an LDBR.
pub record AreFolderFindings (lib : Library) (system : SuperFields) (findings : List (ℕ × ℕ))
    : Type 0 where
  pub found : AreFindings system.core booted_dbr findings
  pub passes : findings ≡ [] → PassesFolderAudit lib

-- ---- a command

-- puts the audit's text, and then runs the system; the number is the limit of steps
unfoldable pub audit_and_run :
    RunContext → ℕ → Booted → List (ℕ × ℕ) → Program quiet (Unit {0})
audit_and_run run steps first findings =
    puts_all (audit_pieces findings) (run_from run 0 steps first)

-- puts the audit's text, and runs the system if the Boolean is true; the number is the limit of
-- steps
abbrev pub audit_and_run_if :
    Bool → RunContext → ℕ → Booted → List (ℕ × ℕ) → Program quiet (Unit {0})
audit_and_run_if true run steps first findings = audit_and_run run steps first findings
audit_and_run_if false run steps first findings = audit_only findings

-- a run of the system of a folder, and what is written of it
abbrev pub run_of_folder : FolderFields → RunOutput → RunContext
run_of_folder given output = record { lib = given.lib; denied = given.denied; output = output }

-- `run` and `trace` after the audit: the run, or the audit's text alone
abbrev pub run_after_audit :
    FolderRun → RunOutput → FolderFields → Booted → List (ℕ × ℕ) → Program quiet (Unit {0})
run_after_audit run output given first findings =
    audit_and_run_if (is_run_allowed findings run.unaudited) (run_of_folder given output) run.steps
    first findings

-- what a command does with a booted system, given the findings of the audit of its core
abbrev pub command_after_audit :
    FolderCommand → FolderFields → Booted → List (ℕ × ℕ) → Program quiet (Unit {0})
command_after_audit Audit given first findings = audit_only findings
command_after_audit (Run run) given first findings =
    run_after_audit run output.Console given first findings
command_after_audit (Trace run) given first findings =
    run_after_audit run output.Trace given first findings

-- Audits the system. Memory may run out here, and after that only in a link service.
unfoldable pub on_system :
    FolderCommand → FolderFields → SuperFields → Program quiet (Unit {0})
on_system command given system =
    wants (some (AreFolderFindings given.lib system)
    (command_after_audit command given (booted_of system)))

-- What a command does with the system that the folder's library boots to. There is at most one, by
-- `system` of `BootedLaw` of `cmd_folder`.
unfoldable pub on_folder : FolderCommand → FolderFields → Program quiet (Unit {0})
on_folder command given = some (IsBooted given.lib) (on_system command given)

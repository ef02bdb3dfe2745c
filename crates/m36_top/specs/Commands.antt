-- The commands, one line each: what each may do, what it reads, what it needs to end with Done, and
-- what its line `audit yes` promises.
use Rattle.std.specs.Prelude.{ℕ, ⊤, List, ◌++◌, Option, None, Result, Ok, Err}
use Rattle.m36_model.specs.Store.{State}
use Rattle.m36_procs.specs.ProcsFields.{ProcsFields}
use Rattle.m36_status.specs.declared.refusal.Refusal.{Refusal}
use Rattle.m36_status.specs.declared.setting.Set.{Set}
use Rattle.m36_program.specs.Program.{May, quiet, Program}
use Rattle.m36_files.specs.Deciding.{rule_program}
use Rattle.m36_files.specs.Writing.{may_write_files}
use Rattle.cmd_tools.specs.Reports.{ReportFields}
use Rattle.cmd_image.specs.declared.command.ImageCommand.TheVariants as image
use Rattle.cmd_image.specs.AuditText.{yes_line}
use Rattle.cmd_image.specs.ImageAudit.{PassesAudit}
use Rattle.cmd_folder.specs.Folder.{FolderFields}
use Rattle.cmd_folder.specs.Promise.{PassesFolderAudit}
use Rattle.m36_debug.specs.SessionProgram.{talking}
use Rattle.cmd_image.specs.ImageProgram.{image_state}
use Rattle.cmd_image.specs.Needs.{ImageNeeds}
use Rattle.cmd_tools.specs.ToolPrograms.{print_report, access_report, alm_report, bind_report}
use Rattle.cmd_folder.specs.FolderProgram.{folder_given}
use Rattle.cmd_folder.specs.Needs.{FolderNeeds}
use Rattle.cmd_procs.specs.ProcsProgram.{procs_in_file}
use Rattle.cmd_procs.specs.Needs.{ScheduleNeeds}
use Rattle.cmd_procs.specs.Scheduled.{PassesJointAudit}
use Rattle.cmd_make.specs.Making.{files_of_seed}
use Rattle.cmd_make.specs.Made.{PassesMakeAudit, head_line_of_files}
use Rattle.cmd_make.specs.Needs.{MadeNeeds}
use Rattle.cmd_debug.specs.Needs.{SessionNeeds}
use Rattle.m36_top.specs.declared.command.Command.{Command}
use Rattle.m36_top.specs.declared.command.Command.TheVariants.{Bare, Audit, Booted, Procs}
use Rattle.m36_top.specs.declared.command.Command.TheVariants.{Access, Print, Alm, Bind}
use Rattle.m36_top.specs.declared.command.Command.TheVariants.{DebugFolder, DebugImage, Make}

-- what a command may do: only `alm`, `bind` and `make` write files, and only sessions take input
abbrev pub may_of : Command → May
may_of (Bare file run) = quiet
may_of (Audit file) = quiet
may_of (Booted command user) = quiet
may_of (Procs file unaudited) = quiet
may_of (Access user) = quiet
may_of (Print name) = quiet
may_of (Alm files) = may_write_files
may_of (Bind files) = may_write_files
may_of DebugFolder = talking
may_of (DebugImage file) = talking
may_of (Make seed) = may_write_files

-- What a command makes of the files that it reads: a machine, a folder with which a system boots,
-- processes with their schedule, or a report. `make` reads none: it makes files from the seed.
abbrev pub Subject : Command → Type 0
Subject (Bare file run) = State (List ℕ)
Subject (Audit file) = State (List ℕ)
Subject (Booted command user) = FolderFields
Subject (Procs file unaudited) = ProcsFields
Subject (Access user) = ReportFields
Subject (Print name) = ReportFields
Subject (Alm files) = ReportFields
Subject (Bind files) = ReportFields
Subject DebugFolder = FolderFields
Subject (DebugImage file) = State (List ℕ)
Subject (Make seed) = List Set

-- the first part of each command, which reads files and yields its subject, or refuses a file
abbrev pub reader_of : (command : Command) → Program (may_of command) (Subject command)
reader_of (Bare file run) = image_state file
reader_of (Audit file) = image_state file
reader_of (Booted command user) = folder_given user
reader_of (Procs file unaudited) = procs_in_file file
reader_of (Access user) = access_report user
reader_of (Print name) = print_report name
reader_of (Alm files) = alm_report files
reader_of (Bind files) = bind_report files
reader_of DebugFolder = folder_given None
reader_of (DebugImage file) = image_state file
reader_of (Make seed) = rule_program (files_of_seed seed)

-- What must hold of the subject for the command to end with Done, and for a session of the bytes
-- that are left of the input, if these are known. Reports need nothing.
abbrev pub Needs : (command : Command) → Option (List ℕ) → Subject command → Type 0
Needs (Bare file run) left state = ImageNeeds (image.Bare run) state
Needs (Audit file) left state = ImageNeeds image.Audit state
Needs (Booted command user) left given = FolderNeeds command given
Needs (Procs file unaudited) left procs = ScheduleNeeds unaudited procs
Needs (Access user) left report = ⊤
Needs (Print name) left report = ⊤
Needs (Alm files) left report = ⊤
Needs (Bind files) left report = ⊤
Needs DebugFolder left given = SessionNeeds left
Needs (DebugImage file) left state = SessionNeeds left
Needs (Make seed) left sets = MadeNeeds sets

-- ---- what `audit yes` promises

-- what `audit yes` promises of the subject; nothing if the command audits nothing
abbrev pub Promised : (command : Command) → Subject command → Type 0
Promised (Bare file run) state = PassesAudit state
Promised (Audit file) state = PassesAudit state
Promised (Booted command user) given = PassesFolderAudit given.lib
Promised (Procs file unaudited) procs = PassesJointAudit procs.state
Promised (Access user) report = ⊤
Promised (Print name) report = ⊤
Promised (Alm files) report = ⊤
Promised (Bind files) report = ⊤
Promised DebugFolder given = ⊤
Promised (DebugImage file) state = ⊤
Promised (Make seed) sets = PassesMakeAudit sets

-- the beginning of the output of `make` up to the line `audit yes`, which follows the line with the
-- count of segments
abbrev pub make_yes_text : Result (List Set) Refusal → List ℕ
make_yes_text (Ok sets) = head_line_of_files sets ++ yes_line
make_yes_text (Err refusal) = yes_line

-- The beginning of the output, up to the line `audit yes`. Only output that begins so promises
-- `Promised`.
abbrev pub yes_text : Command → List ℕ
yes_text (Bare file run) = yes_line
yes_text (Audit file) = yes_line
yes_text (Booted command user) = yes_line
yes_text (Procs file unaudited) = yes_line
yes_text (Access user) = yes_line
yes_text (Print name) = yes_line
yes_text (Alm files) = yes_line
yes_text (Bind files) = yes_line
yes_text DebugFolder = yes_line
yes_text (DebugImage file) = yes_line
yes_text (Make seed) = make_yes_text (files_of_seed seed)

-- Each command as two parts: it reads its subject, and works on it.
use Rattle.std.proofs.Common.{◌≡◌, ℕ, List, [], ◌∷◌, ◌++◌, Option, None, Result, Ok, Err, refl, sym, subst, inl, inr}
use Rattle.m36_world.specs.declared.event.Event.{Event}
use Rattle.m36_world.specs.Seen.{Seen}
use Rattle.m36_status.specs.declared.refusal.Refusal.{Refusal}
use Rattle.m36_status.specs.declared.refusal.Refusal.TheVariants as refusal
use Rattle.m36_status.specs.declared.setting.Set.{Set}
use Rattle.m36_status.specs.declared.status.Status.{Status}
use Rattle.m36_program.specs.Alike.{IsEnd}
use Rattle.m36_program.specs.Ended.{StartsWith}
use Rattle.m36_program.specs.Goes.{Goes}
use Rattle.m36_program.specs.Performs.{Performs}
use Rattle.m36_program.specs.Program.{quiet, Program, then_with}
use Rattle.m36_program.specs.Reader.{IsReader}
use Rattle.m36_program.specs.MayHappen.{pieces_of}
use Rattle.cmd_image.specs.declared.command.ImageCommand.TheVariants as image
use Rattle.cmd_image.specs.AuditText.{yes_line}
use Rattle.m36_files.specs.Deciding.{rule_program}
use Rattle.m36_files.specs.Writing.{may_write_files}
use Rattle.m36_files.proofs.AreReaders.{reader_decides}
use Rattle.cmd_image.specs.ImageProgram.{on_image, image_program}
use Rattle.cmd_image.proofs.ImageReads.{image_reader}
use Rattle.cmd_image.proofs.ImageEnded.{image_done, image_yes}
use Rattle.cmd_tools.specs.Reporting.{put_text, write_report}
use Rattle.cmd_tools.specs.ToolPrograms.{print_program, access_program, alm_program, bind_program}
use Rattle.cmd_tools.proofs.ToolsEnded.{text_done, report_done, tool_laws}
use Rattle.cmd_folder.specs.OnFolder.{on_folder}
use Rattle.cmd_folder.specs.FolderProgram.{folder_program}
use Rattle.cmd_folder.proofs.FolderReader.{folder_reader}
use Rattle.cmd_folder.proofs.FolderEnds.{folder_done, folder_yes}
use Rattle.cmd_procs.specs.ProcsProgram.{on_procs, procs_program}
use Rattle.cmd_procs.proofs.ProcsReads.{procs_reader}
use Rattle.cmd_procs.proofs.ProcsEnded.{procs_done, procs_yes}
use Rattle.cmd_make.specs.Making.{files_of_seed}
use Rattle.cmd_make.specs.Made.{head_line_of_files}
use Rattle.cmd_make.specs.MakeProgram.{write_and_boot, make_program}
use Rattle.cmd_make.proofs.MadeDone.{ends_done}
use Rattle.cmd_make.proofs.MadeYes.{seed_yes}
use Rattle.m36_debug.specs.SessionProgram.{talking}
use Rattle.cmd_debug.specs.DebugProgram.{on_image as talk_of_image, on_folder as talk_of_folder}
use Rattle.cmd_debug.specs.DebugProgram.{debug_image, debug_folder}
use Rattle.cmd_debug.specs.Needs.{SessionNeeds}
use Rattle.cmd_debug.proofs.DebugCalls.{image_done as image_talk_done, folder_done as folder_talk_done}
use Rattle.m36_top.specs.declared.command.Command.{Command}
use Rattle.m36_top.specs.declared.command.Command.TheVariants.{Bare, Audit, Booted, Procs, Access, Print}
use Rattle.m36_top.specs.declared.command.Command.TheVariants.{Alm, Bind, DebugFolder, DebugImage, Make}
use Rattle.m36_top.specs.Commands.{may_of, Subject, reader_of, Needs, Promised, make_yes_text, yes_text}
use Rattle.m36_top.specs.Programs.{program}

-- what each command does with its subject
abbrev pub work_of : (command : Command) → Subject command → Program (may_of command) (Unit {0})
work_of (Bare file run) = on_image (image.Bare run)
work_of (Audit file) = on_image image.Audit
work_of (Booted command user) = on_folder command
work_of (Procs file unaudited) = on_procs unaudited
work_of (Access user) = λ report. put_text report.text
work_of (Print name) = λ report. put_text report.text
work_of (Alm files) = λ report. write_report report
work_of (Bind files) = λ report. write_report report
work_of DebugFolder = talk_of_folder
work_of (DebugImage file) = talk_of_image
work_of (Make seed) = write_and_boot

pub parts : (command : Command) → program command ≡ then_with (reader_of command) (work_of command)
unfolding
    image_program folder_program procs_program access_program print_program alm_program bind_program debug_folder
    debug_image make_program
parts (Bare file run) = refl
parts (Audit file) = refl
parts (Booted command user) = refl
parts (Procs file unaudited) = refl
parts (Access user) = refl
parts (Print name) = refl
parts (Alm files) = refl
parts (Bind files) = refl
parts DebugFolder = refl
parts (DebugImage file) = refl
parts (Make seed) = refl

pub reads_only : (command : Command) → IsReader (reader_of command)
reads_only (Bare file run) = image_reader quiet file
reads_only (Audit file) = image_reader quiet file
reads_only (Booted command user) = folder_reader quiet user
reads_only (Procs file unaudited) = procs_reader quiet file
reads_only (Access user) = (tool_laws.access user).reads
reads_only (Print name) = (tool_laws.print name).reads
reads_only (Alm files) = (tool_laws.alm files).reads
reads_only (Bind files) = (tool_laws.bind files).reads
reads_only DebugFolder = folder_reader talking None
reads_only (DebugImage file) = image_reader talking file
reads_only (Make seed) = reader_decides may_write_files (files_of_seed seed)

-- ---- the end with Done

pub works_done :
    (command : Command) (subject : Subject command) (left : Option (List ℕ)) (result : Result (Unit {0}) Status)
    (old new : Seen)
    → Needs command left subject → old.left ≡ left → Performs (work_of command subject) result old new → IsEnd result
    → result ≡ Ok tt
works_done (Bare file run) state left result old new needs same p end =
    image_done (image.Bare run) state p.events result p.goes end needs
works_done (Audit file) state left result old new needs same p end =
    image_done image.Audit state p.events result p.goes end needs
works_done (Booted command user) given left result old new needs same p end =
    folder_done command given p.events result p.goes end needs
works_done (Procs file unaudited) procs left result old new needs same p end =
    procs_done unaudited procs p.events result p.goes end needs
works_done (Access user) report left result old new needs same p end =
    text_done quiet report.text p.events result end p.goes
works_done (Print name) report left result old new needs same p end =
    text_done quiet report.text p.events result end p.goes
works_done (Alm files) report left result old new needs same p end =
    report_done report p.events result end p.goes
works_done (Bind files) report left result old new needs same p end =
    report_done report p.events result end p.goes
works_done DebugFolder given left result old new needs same p end =
    folder_talk_done given result old new (subst SessionNeeds (sym same) needs) p end
works_done (DebugImage file) state left result old new needs same p end =
    image_talk_done state result old new (subst SessionNeeds (sym same) needs) p end
works_done (Make seed) sets left result old new needs same p end =
    ends_done sets p.events result needs (record { goes = p.goes; is_end = end })

-- ---- what `audit yes` promises

-- The text with which something is promised is not empty.
append_filled : (before after : List ℕ) → (after ≡ [] → ⊥) → before ++ after ≡ [] → ⊥
append_filled [] after filled none = filled none
append_filled (x ∷ before) after filled none = absurd (cc)

line_filled : yes_line ≡ [] → ⊥
line_filled none = cc

made_filled : (given : Result (List Set) Refusal) → make_yes_text given ≡ [] → ⊥
made_filled (Ok sets) none = append_filled (head_line_of_files sets) yes_line line_filled none
made_filled (Err refused) none = line_filled none

pub yes_filled : (command : Command) → yes_text command ≡ [] → ⊥
yes_filled (Make seed) none = made_filled (files_of_seed seed) none
yes_filled _ none = line_filled none

same_sets :
    (one other : List Set) → (let r : Result (List Set) Status = Ok other in r) ≡ Ok one
    → (let r : Result (List Set) Refusal = Ok one in r) ≡ Ok other
same_sets one other is = cc

-- the value of a rule is what was computed
pub decides_value :
    (given : Result (List Set) Refusal) (events : List Event) (sets : List Set)
    → Goes {may = may_write_files} (rule_program given) events (Ok sets)
    → given ≡ Ok sets
unfolding Goes rule_program
decides_value (Ok a) events sets (inl goes) = same_sets a sets goes.result_is
decides_value (Ok a) events sets (inr goes) = let e = goes.result_is in absurd (cc)
decides_value (Err (refusal.BadFile bad)) events sets (inl goes) = let e = goes.result_is in absurd (cc)
decides_value (Err (refusal.BadFile bad)) events sets (inr goes) = let e = goes.result_is in absurd (cc)
decides_value (Err refusal.NoMemory) events sets (inl goes) = absurd goes.value
decides_value (Err refusal.NoMemory) events sets (inr goes) = let e = goes.result_is in absurd (cc)

-- The subject is that of the command; for `make`, the files of its seed.
abbrev pub IsSubject : (command : Command) → Subject command → Type 0
IsSubject (Make seed) sets = files_of_seed seed ≡ Ok sets
IsSubject _ subject = Unit {0}

pub yes_promised :
    (command : Command) (subject : Subject command) (events : List Event) (result : Result (Unit {0}) Status)
    → Goes (work_of command subject) events result → StartsWith (yes_text command) (pieces_of events)
    → IsSubject command subject → Promised command subject
yes_promised (Bare file run) state events result goes starts is =
    image_yes (image.Bare run) state events result goes starts
yes_promised (Audit file) state events result goes starts is =
    image_yes image.Audit state events result goes starts
yes_promised (Booted command user) given events result goes starts is =
    folder_yes command given events result goes starts
yes_promised (Procs file unaudited) procs events result goes starts is =
    procs_yes unaudited procs events result goes starts
yes_promised (Make seed) sets events result goes starts is =
    seed_yes sets events result (subst (λ given. StartsWith (make_yes_text given) (pieces_of events)) is starts) (inl goes)
yes_promised _ subject events result goes starts is = tt

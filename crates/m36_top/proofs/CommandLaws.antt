-- What a command does if a file is refused; and the laws of each kind of command.
use Rattle.std.proofs.Common.{◌≡◌, Some, Result, Ok, Err, inl, inr, sym, ap, subst, ◌∙◌}
use Rattle.m36_outside.specs.Files.{Files}
use Rattle.m36_world.specs.Seen.{Seen}
use Rattle.m36_world.proofs.Following.{follow_split}
use Rattle.m36_world.specs.Follow.{Follow}
use Rattle.m36_status.specs.declared.status.Status.{Status}
use Rattle.m36_program.specs.Goes.{Goes}
use Rattle.m36_program.specs.Performs.{Performs}
use Rattle.m36_program.specs.Program.{May, Program, then_with}
use Rattle.m36_program.specs.Reader.{IsReader, reader_result}
use Rattle.m36_program.proofs.ReaderLaws.{same_err, ok_err, err_end, reader_split, reader_outcome, reader_pieces}
use Rattle.cmd_folder.proofs.OneRunLaws.{booted_law}
use Rattle.cmd_image.proofs.ImageEnded.{image_end_law}
use Rattle.cmd_image.proofs.TextLaws.{image_text_law}
use Rattle.cmd_procs.proofs.ProcsEnded.{procs_end_law}
use Rattle.cmd_procs.proofs.TextLaws.{procs_text_law}
use Rattle.cmd_tools.proofs.ToolsEnded.{tool_laws}
use Rattle.cmd_folder.proofs.FolderLaws.{folder_law}
use Rattle.cmd_make.proofs.MadeEnds.{made_law}
use Rattle.cmd_debug.proofs.DebugCalls.{debug_law}
use Rattle.cmd_debug.proofs.DebugText.{debug_text_law}
use Rattle.m36_top.specs.declared.command.Command.{Command}
use Rattle.m36_top.specs.Commands.{reader_of}
use Rattle.m36_top.specs.Programs.{program}
use Rattle.m36_top.specs.CommandLaws.{IsRefused, CommandLaws}
use Rattle.m36_top.proofs.Subjects.{work_of, parts, reads_only}

-- The events and the result of a program that begins with a reader, if the files are refused.
refused_by :
    {may : May} {A : Type 0} (p : Program may A) (next : A → Program may (Unit {0})) (files : Files) (status : Status)
    (result : Result (Unit {0}) Status) (old new : Seen)
    → IsReader p → old.files ≡ Some files → reader_result files p ≡ Some (Err status)
    → (performs : Performs (then_with p next) result old new) → IsRefused status performs.events result
refused_by {A = A} p next files status result old new is told refused performs =
    elim (reader_split p next performs.events result is performs.goes) [
      | inl both ↦
          let passed =
          follow_split both.first both.more old new (subst (λ e. Follow e old new) both.is performs.follow) in
          ok_err both.value status
          (sym (reader_outcome p files (Ok both.value) old passed.between is told tt
          (record { events = both.first; follow = passed.begins; goes = both.begins })) ∙ refused)
      | inr ends ↦ record {
        none_put = reader_pieces p performs.events (Err ends.status) is ends.goes;
        refuses = λ ended.
            ends.result_is
            ∙ ap (λ s. Err s) (same_err {A = A} ends.status status
            (sym (reader_outcome p files (Err ends.status) old new is told
            (err_end A (Unit {0}) result ends.status ends.result_is ended)
            (record { events = performs.events; follow = performs.follow; goes = ends.goes })) ∙ refused));
      }
    ]

command_refused :
    (command : Command) (files : Files) (status : Status) (result : Result (Unit {0}) Status) (old new : Seen)
    → old.files ≡ Some files → reader_result files (reader_of command) ≡ Some (Err status)
    → (performs : Performs (program command) result old new) → IsRefused status performs.events result
command_refused command files status result old new told refused performs =
    refused_by (reader_of command) (work_of command) files status result old new (reads_only command) told refused
    (record {
      events = performs.events;
      follow = performs.follow;
      goes = subst (λ p. Goes p performs.events result) (parts command) performs.goes;
    })

pub command_laws : CommandLaws
command_laws = record {
  refused = command_refused;
  images = image_end_law;
  image_texts = image_text_law;
  processes = procs_end_law;
  process_texts = procs_text_law;
  tools = tool_laws;
  folders = folder_law;
  systems = booted_law;
  made = made_law;
  sessions = debug_law;
  session_texts = debug_text_law;
}

-- Laws of `print NAME`, `access USER`, `alm NAME` and `bind NAME`.
use Rattle.std.specs.Prelude.{ℕ, ◌≡◌, List, Some, Result, Ok}
use Rattle.m36_outside.specs.Files.{Files}
use Rattle.m36_outside.specs.Passing.{joined}
use Rattle.m36_world.specs.Seen.{Seen}
use Rattle.m36_status.specs.declared.status.Status.{Status}
use Rattle.cmd_tools.specs.declared.alm_files.AlmFiles.{AlmFiles}
use Rattle.cmd_tools.specs.declared.bind_files.BindFiles.{BindFiles}
use Rattle.cmd_tools.specs.LinesIn.{lines_in}
use Rattle.cmd_tools.specs.Reports.{ReportFields}
use Rattle.m36_program.specs.Ended.{HasEnd, NoneRose, IsDoneOrNoMemory}
use Rattle.m36_program.specs.OneText.{HasOneText}
use Rattle.m36_program.specs.Performs.{Performs}
use Rattle.m36_program.specs.Program.{May, Program}
use Rattle.m36_program.specs.Reader.{IsReader, reader_result}
use Rattle.cmd_tools.specs.Reporting.{put_text, write_report}
use Rattle.cmd_tools.specs.ToolPrograms.{print_report, print_program, access_report, access_program}
use Rattle.cmd_tools.specs.ToolPrograms.{alm_report, alm_program, bind_report, bind_program}

-- The laws of a command that makes `report` of files, and then performs `next` of it.
pub record ToolLaw {may : May} (report : Program may ReportFields)
    (next : ReportFields → Program may (Unit {0})) (program : Program may (Unit {0})) : Type 0 where
  -- The report is made of files that are read, and nothing else is done before.
  pub reads : IsReader report
  -- What follows a report can end, whatever the report is.
  pub rest_ends : (told : ReportFields) → HasEnd (next told)
  -- The command can end if some files give a report.
  pub ends :
      (files : Files) (told : ReportFields) → reader_result files report ≡ Some (Ok told)
      → HasEnd program
  -- If the files give a report, and no count of faults rises, the command ends with Done, or memory
  -- runs out.
  pub done :
      (files : Files) (told : ReportFields) (result : Result (Unit {0}) Status) (old new : Seen)
      → old.files ≡ Some files → reader_result files report ≡ Some (Ok told) → NoneRose old new
      → Performs program result old new → IsDoneOrNoMemory result
  -- Over the same files all calls put prefixes of one text.
  pub one_text : HasOneText program

-- the laws of the four commands
pub record ToolLaws : Type 0 where
  -- The lines in which a text is put, one after another, are the text.
  pub lines : (text : List ℕ) → joined (lines_in text) ≡ text
  pub print :
      (name : List ℕ)
      → ToolLaw (print_report name) (λ told. put_text told.text) (print_program name)
  pub access :
      (user : List ℕ)
      → ToolLaw (access_report user) (λ told. put_text told.text) (access_program user)
  pub alm : (files : AlmFiles) → ToolLaw (alm_report files) write_report (alm_program files)
  pub bind : (files : BindFiles) → ToolLaw (bind_report files) write_report (bind_program files)

-- Writes the files of a report in order, and then prints its text.
use Rattle.std.specs.Prelude.{ℕ, ◌≡◌, true, refl, List, [], ◌∷◌}
use Rattle.m36_status.specs.declared.setting.Set.{Set}
use Rattle.cmd_tools.specs.LinesIn.{lines_in}
use Rattle.cmd_tools.specs.Reports.{ReportFields}
use Rattle.m36_program.specs.Program.{May, Program, done, writes, puts_all}
use Rattle.m36_files.specs.Writing.{may_write_files}

-- writes files, one after another
unfoldable pub writes_all :
    {may : May} {A : Type 0} → may.writes ≡ true → List Set → Program may A → Program may A
writes_all allowed [] rest = rest
writes_all allowed (file ∷ files) rest =
    writes allowed file.name file.content (writes_all allowed files rest)

-- puts a text line by line, each line with its line feed
unfoldable pub put_text : {may : May} → List ℕ → Program may (Unit {0})
put_text text = puts_all (lines_in text) (done tt)

-- writes files, and ends
unfoldable pub write_files : List Set → Program may_write_files (Unit {0})
write_files files = writes_all refl files (done tt)

-- writes the files of a report, and then puts its text
unfoldable pub write_report : ReportFields → Program may_write_files (Unit {0})
write_report report = writes_all refl report.sets (put_text report.text)

-- `print NAME`, `access USER`, `alm NAME` and `bind NAME`, as programs: read files, compute a
-- report from them, write its files, and put its text line by line. Once the report is complete,
-- memory may run out only in a write.
use Rattle.std.specs.Prelude.{ℕ, List, [], Ok}
use Rattle.m36_dir.specs.Catalog.{CatalogFields}
use Rattle.m36_bindfile.specs.BindFile.{bind_lines, names_or_fault}
use Rattle.m36_bind.specs.Bound.{bound_object_of}
use Rattle.cmd_tools.specs.declared.alm_files.AlmFiles.{AlmFiles}
use Rattle.cmd_tools.specs.declared.bind_files.BindFiles.{BindFiles}
use Rattle.cmd_tools.specs.Accesses.{report_of_access}
use Rattle.cmd_tools.specs.Assemblies.{assembly_of}
use Rattle.cmd_tools.specs.Binding.{names_or_refusal, bind_report_or_refusal}
use Rattle.cmd_tools.specs.PrintAndAlm.{report_of_print, alm_report_or_refusal}
use Rattle.cmd_tools.specs.Reports.{ReportFields}
use Rattle.m36_program.specs.Program.{May, quiet, Program, then_with}
use Rattle.m36_program.specs.Readers.{file_bytes}
use Rattle.m36_files.specs.Catalogs.{boot_catalog, access_lists}
use Rattle.m36_files.specs.Deciding.{rule_program}
use Rattle.m36_files.specs.EachFile.{read_each}
use Rattle.m36_files.specs.FileReaders.{file_object}
use Rattle.m36_files.specs.Writing.{may_write_files}
use Rattle.cmd_tools.specs.Reporting.{put_text, write_report}

-- ---- `print NAME`

-- reads an object, and makes its print
unfoldable pub print_report : {may : May} → List ℕ → Program may ReportFields
print_report name =
    then_with (file_object name) (λ parts. rule_program (Ok (report_of_print name parts)))

-- the whole command: reads the object, and puts its print
unfoldable pub print_program : List ℕ → Program quiet (Unit {0})
print_program name = then_with (print_report name) (λ report. put_text report.text)

-- ---- `access USER`

-- reads the access lists, and reports what a user may do with each segment of a catalog
unfoldable pub lists_report : {may : May} → List ℕ → CatalogFields → Program may ReportFields
lists_report user catalog =
    then_with (access_lists catalog) (λ lists. rule_program
    (Ok (report_of_access user catalog lists)))

-- reads the boot text and the access lists, and reports what a user may do with each segment
unfoldable pub access_report : {may : May} → List ℕ → Program may ReportFields
access_report user = then_with boot_catalog (λ catalog. lists_report user catalog)

-- the whole command: reads both texts, and puts a line for each segment
unfoldable pub access_program : List ℕ → Program quiet (Unit {0})
access_program user = then_with (access_report user) (λ report. put_text report.text)

-- ---- `alm NAME`

-- reads and assembles a source, and reports the object
unfoldable pub alm_report : {may : May} → AlmFiles → Program may ReportFields
alm_report files =
    then_with (file_bytes files.source)
    (λ bytes. rule_program (alm_report_or_refusal files (assembly_of bytes)))

-- the whole command: assembles the source, writes the object, and then puts the listing
unfoldable pub alm_program : AlmFiles → Program may_write_files (Unit {0})
alm_program files = then_with (alm_report files) (λ report. write_report report)

-- ---- `bind NAME`

-- reads the components, and binds them
unfoldable pub components_report :
    {may : May} → BindFiles → List ℕ → List (List ℕ) → Program may ReportFields
components_report files text names =
    then_with (read_each file_object [] names)
    (λ objects. rule_program (bind_report_or_refusal files (bound_object_of text names objects)))

-- parses the bind file for the names of the components, and continues with these
unfoldable pub text_report : {may : May} → BindFiles → List ℕ → Program may ReportFields
text_report files text =
    then_with (rule_program (names_or_refusal files.bindfile (names_or_fault (bind_lines text))))
    (λ names. components_report files text names)

-- reads the bind file and the objects of its components, and reports the bound object
unfoldable pub bind_report : {may : May} → BindFiles → Program may ReportFields
bind_report files = then_with (file_bytes files.bindfile) (λ text. text_report files text)

-- the whole command: binds, writes the bound object, and then puts its print
unfoldable pub bind_program : BindFiles → Program may_write_files (Unit {0})
bind_program files = then_with (bind_report files) (λ report. write_report report)

-- The programs are alike to themselves.
use Rattle.std.proofs.Common.{ℕ, List, [], ◌∷◌, Ok, refl}
use Rattle.m36_bindfile.specs.BindFile.{bind_lines, names_or_fault}
use Rattle.m36_bind.specs.Bound.{bound_object_of}
use Rattle.m36_dir.specs.Catalog.{CatalogFields}
use Rattle.m36_status.specs.declared.setting.Set.{Set}
use Rattle.cmd_tools.specs.declared.alm_files.AlmFiles.{AlmFiles}
use Rattle.cmd_tools.specs.declared.bind_files.BindFiles.{BindFiles}
use Rattle.cmd_tools.specs.Accesses.{report_of_access}
use Rattle.cmd_tools.specs.Assemblies.{assembly_of}
use Rattle.cmd_tools.specs.Binding.{names_or_refusal, bind_report_or_refusal}
use Rattle.cmd_tools.specs.LinesIn.{lines_in}
use Rattle.cmd_tools.specs.PrintAndAlm.{report_of_print, alm_report_or_refusal}
use Rattle.cmd_tools.specs.Reports.{ReportFields}
use Rattle.m36_program.specs.Alike.{Alike}
use Rattle.m36_program.specs.Program.{May, quiet, Program, done}
use Rattle.m36_program.specs.Readers.{file_bytes}
use Rattle.m36_program.proofs.AlikeLaws.{alike_then, alike_puts, bytes_alike}
use Rattle.m36_files.specs.Catalogs.{boot_catalog, access_lists}
use Rattle.m36_files.specs.Deciding.{rule_program}
use Rattle.m36_files.specs.EachFile.{read_each}
use Rattle.m36_files.specs.FileReaders.{file_object}
use Rattle.m36_files.specs.Writing.{may_write_files}
use Rattle.m36_files.proofs.AlikeReaders.{decides_alike, done_alike, rule_alike, object_alike, catalog_alike, lists_alike, each_alike}
use Rattle.cmd_tools.specs.Reporting.{writes_all, put_text, write_report}
use Rattle.cmd_tools.specs.ToolPrograms.{print_report, print_program, lists_report, access_report, access_program}
use Rattle.cmd_tools.specs.ToolPrograms.{alm_report, alm_program, components_report, text_report, bind_report, bind_program}

-- ---- reports

text_alike : (may : May) (text : List ℕ) → Alike {may = may} (put_text text) (put_text text)
unfolding put_text
text_alike may text = alike_puts (lines_in text) (done tt) (done tt) (done_alike may tt)

files_alike :
    (files : List Set) (rest : Program may_write_files (Unit {0})) → Alike rest rest
    → Alike (writes_all refl files rest) (writes_all refl files rest)
unfolding Alike writes_all
files_alike [] rest alike = alike
files_alike (file ∷ files) rest alike = (refl, refl, files_alike files rest alike)

report_alike : (report : ReportFields) → Alike (write_report report) (write_report report)
unfolding write_report
report_alike report = files_alike report.sets (put_text report.text) (text_alike may_write_files report.text)

-- ---- each command

pub print_alike : (name : List ℕ) → Alike (print_program name) (print_program name)
unfolding print_program print_report
print_alike name =
    alike_then (print_report name) (print_report name) (λ r. put_text r.text) (λ r. put_text r.text)
    (rule_alike quiet (file_object name) (λ parts. Ok (report_of_print name parts)) (object_alike quiet name)) (λ r. text_alike quiet r.text)

lists_report_alike : (user : List ℕ) (catalog : CatalogFields) → Alike {may = quiet} (lists_report user catalog) (lists_report user catalog)
unfolding lists_report
lists_report_alike user catalog =
    rule_alike quiet (access_lists catalog) (λ lists. Ok (report_of_access user catalog lists)) (lists_alike quiet catalog)

access_report_alike : (user : List ℕ) → Alike {may = quiet} (access_report user) (access_report user)
unfolding access_report
access_report_alike user =
    alike_then boot_catalog boot_catalog (lists_report user) (lists_report user) (catalog_alike quiet) (lists_report_alike user)

pub access_alike : (user : List ℕ) → Alike (access_program user) (access_program user)
unfolding access_program
access_alike user =
    alike_then (access_report user) (access_report user) (λ r. put_text r.text) (λ r. put_text r.text)
    (access_report_alike user) (λ r. text_alike quiet r.text)

pub alm_alike : (files : AlmFiles) → Alike (alm_program files) (alm_program files)
unfolding alm_program alm_report
alm_alike files =
    alike_then (alm_report files) (alm_report files) write_report write_report
    (rule_alike may_write_files (file_bytes files.source) (λ bytes. alm_report_or_refusal files (assembly_of bytes)) (bytes_alike may_write_files files.source))
    report_alike

components_alike :
    (files : BindFiles) (text : List ℕ) (names : List (List ℕ))
    → Alike {may = may_write_files} (components_report files text names) (components_report files text names)
unfolding components_report
components_alike files text names =
    rule_alike may_write_files (read_each file_object [] names) (λ objects. bind_report_or_refusal files (bound_object_of text names objects))
    (each_alike may_write_files file_object [] names (λ name. object_alike may_write_files name))

text_report_alike : (files : BindFiles) (text : List ℕ) → Alike {may = may_write_files} (text_report files text) (text_report files text)
unfolding text_report
text_report_alike files text =
    let names = names_or_refusal files.bindfile (names_or_fault (bind_lines text)) in
    alike_then (rule_program names) (rule_program names) (components_report files text) (components_report files text)
    (decides_alike may_write_files names) (components_alike files text)

bind_report_alike : (files : BindFiles) → Alike {may = may_write_files} (bind_report files) (bind_report files)
unfolding bind_report
bind_report_alike files =
    alike_then (file_bytes files.bindfile) (file_bytes files.bindfile) (text_report files) (text_report files)
    (bytes_alike may_write_files files.bindfile) (text_report_alike files)

pub bind_alike : (files : BindFiles) → Alike (bind_program files) (bind_program files)
unfolding bind_program
bind_alike files =
    alike_then (bind_report files) (bind_report files) write_report write_report (bind_report_alike files) report_alike

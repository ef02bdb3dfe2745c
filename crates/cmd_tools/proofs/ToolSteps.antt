-- Each command performs its program, since its parts do.
use Rattle.std.proofs.Common.{◌≡◌, ℕ, List, [], Result, Ok, Err, refl, subst}
use Rattle.m36_dir.specs.Catalog.{CatalogFields}
use Rattle.m36_acl.specs.Fields.{AclSegmentFields}
use Rattle.obj36_parts.specs.PartsFields.{PartsFields}
use Rattle.m36_bindfile.specs.BindFile.{bind_lines, names_or_fault}
use Rattle.m36_bind.specs.Bound.{bound_object_of}
use Rattle.m36_world.specs.Seen.{Seen}
use Rattle.m36_status.specs.declared.refusal.Refusal.{Refusal}
use Rattle.m36_status.specs.declared.status.Status.{Status}
use Rattle.m36_status.specs.Refusing.{IsRuleResult}
use Rattle.cmd_tools.specs.declared.alm_files.AlmFiles.{AlmFiles}
use Rattle.cmd_tools.specs.declared.bind_files.BindFiles.{BindFiles}
use Rattle.cmd_tools.specs.Accesses.{report_of_access}
use Rattle.cmd_tools.specs.Assemblies.{assembly_of}
use Rattle.cmd_tools.specs.Binding.{names_or_refusal, bind_report_or_refusal}
use Rattle.cmd_tools.specs.PrintAndAlm.{report_of_print, alm_report_or_refusal}
use Rattle.cmd_tools.specs.Reports.{ReportFields}
use Rattle.m36_program.specs.Performs.{Performs}
use Rattle.m36_program.specs.Program.{May, quiet, Program, then_with}
use Rattle.m36_program.specs.Readers.{file_bytes}
use Rattle.m36_program.proofs.Performing.{performs_then, performs_stop}
use Rattle.m36_files.specs.Catalogs.{boot_catalog, access_lists}
use Rattle.m36_files.specs.Deciding.{rule_program, refusal_to_status}
use Rattle.m36_files.specs.EachFile.{read_each}
use Rattle.m36_files.specs.FileReaders.{file_object}
use Rattle.m36_files.specs.Writing.{may_write_files}
use Rattle.m36_files.proofs.DecidingLaws.{rule_given, rule_after, rule_never}
use Rattle.cmd_tools.specs.Reporting.{put_text, write_report}
use Rattle.cmd_tools.specs.ToolPrograms.{print_report, print_program, lists_report, access_report, access_program}
use Rattle.cmd_tools.specs.ToolPrograms.{alm_report, alm_program, components_report, text_report, bind_report, bind_program}

-- ---- `print NAME`

pub print_read :
    (may : May) (name : List ℕ) (parts : PartsFields) (given : Result ReportFields Refusal) (result : Result ReportFields Status) (old new : Seen)
    → Performs {may = may} (file_object name) (Ok parts) old new → IsRuleResult given (Ok (report_of_print name parts)) → result ≡ refusal_to_status given
    → Performs {may = may} (print_report name) result old new
unfolding print_report
print_read may name parts given result old new performs gives is =
    rule_after may (file_object name) (λ p. Ok (report_of_print name p)) parts parts given result old new performs refl gives is

pub print_unread :
    (may : May) (name : List ℕ) (s : Status) (old new : Seen) → Performs {may = may} (file_object name) (Err s) old new
    → Performs {may = may} (print_report name) (Err s) old new
unfolding print_report
print_unread may name s old new performs = rule_never may (file_object name) (λ p. Ok (report_of_print name p)) s old new performs

-- A report without files is put.
text_put :
    (p : Program quiet ReportFields) (report : ReportFields) (text : List ℕ) (result : Result (Unit {0}) Status) (old between new : Seen)
    → text ≡ report.text → Performs p (Ok report) old between → Performs {may = quiet} (put_text text) result between new
    → Performs (then_with p (λ r. put_text r.text)) result old new
text_put p report text result old between new is first second =
    performs_then p (λ r. put_text r.text) report result old between new first
    (subst (λ (t : List ℕ). Performs {may = quiet} (put_text t) result between new) is second)

pub print_done :
    (name : List ℕ) (report : ReportFields) (text : List ℕ) (result : Result (Unit {0}) Status) (old between new : Seen)
    → text ≡ report.text → Performs {may = quiet} (print_report name) (Ok report) old between
    → Performs {may = quiet} (put_text text) result between new → Performs (print_program name) result old new
unfolding print_program
print_done name report text result old between new is first second =
    text_put (print_report name) report text result old between new is first second

pub print_stop :
    (name : List ℕ) (s : Status) (old new : Seen) → Performs {may = quiet} (print_report name) (Err s) old new
    → Performs (print_program name) (Err s) old new
unfolding print_program
print_stop name s old new first = performs_stop (print_report name) (λ r. put_text r.text) s old new first

-- ---- `access USER`

pub lists_read :
    (may : May) (user : List ℕ) (catalog : CatalogFields) (lists : List AclSegmentFields) (given : Result ReportFields Refusal)
    (result : Result ReportFields Status) (old new : Seen)
    → Performs {may = may} (access_lists catalog) (Ok lists) old new → IsRuleResult given (Ok (report_of_access user catalog lists))
    → result ≡ refusal_to_status given → Performs {may = may} (lists_report user catalog) result old new
unfolding lists_report
lists_read may user catalog lists given result old new performs gives is =
    rule_after may (access_lists catalog) (λ l. Ok (report_of_access user catalog l)) lists lists given result old new performs refl gives is

pub lists_unread :
    (may : May) (user : List ℕ) (catalog : CatalogFields) (s : Status) (old new : Seen)
    → Performs {may = may} (access_lists catalog) (Err s) old new → Performs {may = may} (lists_report user catalog) (Err s) old new
unfolding lists_report
lists_unread may user catalog s old new performs =
    rule_never may (access_lists catalog) (λ l. Ok (report_of_access user catalog l)) s old new performs

pub access_read :
    (may : May) (user : List ℕ) (catalog : CatalogFields) (result : Result ReportFields Status) (old between new : Seen)
    → Performs {may = may} boot_catalog (Ok catalog) old between → Performs {may = may} (lists_report user catalog) result between new
    → Performs {may = may} (access_report user) result old new
unfolding access_report
access_read may user catalog result old between new first second =
    performs_then boot_catalog (lists_report user) catalog result old between new first second

pub access_unread :
    (may : May) (user : List ℕ) (s : Status) (old new : Seen) → Performs {may = may} boot_catalog (Err s) old new
    → Performs {may = may} (access_report user) (Err s) old new
unfolding access_report
access_unread may user s old new first = performs_stop boot_catalog (lists_report user) s old new first

pub access_done :
    (user : List ℕ) (report : ReportFields) (text : List ℕ) (result : Result (Unit {0}) Status) (old between new : Seen)
    → text ≡ report.text → Performs {may = quiet} (access_report user) (Ok report) old between
    → Performs {may = quiet} (put_text text) result between new → Performs (access_program user) result old new
unfolding access_program
access_done user report text result old between new is first second =
    text_put (access_report user) report text result old between new is first second

pub access_stop :
    (user : List ℕ) (s : Status) (old new : Seen) → Performs {may = quiet} (access_report user) (Err s) old new
    → Performs (access_program user) (Err s) old new
unfolding access_program
access_stop user s old new first = performs_stop (access_report user) (λ r. put_text r.text) s old new first

-- ---- `alm NAME`

-- the name of the source is the one that was borrowed
bytes_as :
    (name file : List ℕ) (result : Result (List ℕ) Status) (old new : Seen) → name ≡ file
    → Performs {may = may_write_files} (file_bytes name) result old new → Performs {may = may_write_files} (file_bytes file) result old new
bytes_as name file result old new is performs =
    subst (λ (n : List ℕ). Performs {may = may_write_files} (file_bytes n) result old new) is performs

pub source_read :
    (files : AlmFiles) (name bytes text : List ℕ) (given : Result ReportFields Refusal) (result : Result ReportFields Status) (old new : Seen)
    → name ≡ files.source → Performs {may = may_write_files} (file_bytes name) (Ok bytes) old new → text ≡ bytes
    → IsRuleResult given (alm_report_or_refusal files (assembly_of text)) → result ≡ refusal_to_status given
    → Performs {may = may_write_files} (alm_report files) result old new
unfolding alm_report
source_read files name bytes text given result old new named performs same gives is =
    rule_after may_write_files (file_bytes files.source) (λ b. alm_report_or_refusal files (assembly_of b)) bytes text given result old new
    (bytes_as name files.source (Ok bytes) old new named performs) same gives is

pub source_unread :
    (files : AlmFiles) (name : List ℕ) (s : Status) (old new : Seen) → name ≡ files.source
    → Performs {may = may_write_files} (file_bytes name) (Err s) old new → Performs {may = may_write_files} (alm_report files) (Err s) old new
unfolding alm_report
source_unread files name s old new named performs =
    rule_never may_write_files (file_bytes files.source) (λ b. alm_report_or_refusal files (assembly_of b)) s old new
    (bytes_as name files.source (Err s) old new named performs)

pub alm_done :
    (files : AlmFiles) (report : ReportFields) (result : Result (Unit {0}) Status) (old between new : Seen)
    → Performs {may = may_write_files} (alm_report files) (Ok report) old between → Performs (write_report report) result between new
    → Performs (alm_program files) result old new
unfolding alm_program
alm_done files report result old between new first second =
    performs_then (alm_report files) write_report report result old between new first second

pub alm_stop :
    (files : AlmFiles) (s : Status) (old new : Seen) → Performs {may = may_write_files} (alm_report files) (Err s) old new
    → Performs (alm_program files) (Err s) old new
unfolding alm_program
alm_stop files s old new first = performs_stop (alm_report files) write_report s old new first

pub ruleset assembles = (alm_done, alm_stop)

-- ---- `bind NAME`

pub components_read :
    (files : BindFiles) (text : List ℕ) (names : List (List ℕ)) (objects items : List PartsFields) (given : Result ReportFields Refusal)
    (result : Result ReportFields Status) (old new : Seen)
    → Performs {may = may_write_files} (read_each file_object [] names) (Ok objects) old new → items ≡ objects
    → IsRuleResult given (bind_report_or_refusal files (bound_object_of text names items)) → result ≡ refusal_to_status given
    → Performs {may = may_write_files} (components_report files text names) result old new
unfolding components_report
components_read files text names objects items given result old new performs same gives is =
    rule_after may_write_files (read_each file_object [] names) (λ os. bind_report_or_refusal files (bound_object_of text names os)) objects items given result old new
    performs same gives is

pub components_unread :
    (files : BindFiles) (text : List ℕ) (names : List (List ℕ)) (s : Status) (old new : Seen)
    → Performs {may = may_write_files} (read_each file_object [] names) (Err s) old new
    → Performs {may = may_write_files} (components_report files text names) (Err s) old new
unfolding components_report
components_unread files text names s old new performs =
    rule_never may_write_files (read_each file_object [] names) (λ os. bind_report_or_refusal files (bound_object_of text names os)) s old new performs

pub text_read :
    (files : BindFiles) (text name : List ℕ) (given : Result (List (List ℕ)) Refusal) (decided : Result (List (List ℕ)) Status)
    (names items : List (List ℕ)) (result : Result ReportFields Status) (old new : Seen)
    → name ≡ files.bindfile → IsRuleResult given (names_or_refusal name (names_or_fault (bind_lines text))) → decided ≡ refusal_to_status given → decided ≡ Ok names
    → items ≡ names → Performs {may = may_write_files} (components_report files text items) result old new
    → Performs {may = may_write_files} (text_report files text) result old new
unfolding text_report
text_read files text name given decided names items result old new named gives by is same performs =
    performs_then (rule_program (names_or_refusal files.bindfile (names_or_fault (bind_lines text)))) (components_report files text) names result old old new
    (subst (λ r. Performs {may = may_write_files} (rule_program (names_or_refusal files.bindfile (names_or_fault (bind_lines text)))) r old old) is
    (rule_given may_write_files given (names_or_refusal files.bindfile (names_or_fault (bind_lines text))) decided old
    (subst (λ (n : List ℕ). IsRuleResult given (names_or_refusal n (names_or_fault (bind_lines text)))) named gives) by))
    (subst (λ (ns : List (List ℕ)). Performs {may = may_write_files} (components_report files text ns) result old new) same performs)

pub text_unread :
    (files : BindFiles) (text name : List ℕ) (given : Result (List (List ℕ)) Refusal) (decided : Result (List (List ℕ)) Status)
    (s : Status) (seen : Seen)
    → name ≡ files.bindfile → IsRuleResult given (names_or_refusal name (names_or_fault (bind_lines text))) → decided ≡ refusal_to_status given → decided ≡ Err s
    → Performs {may = may_write_files} (text_report files text) (Err s) seen seen
unfolding text_report
text_unread files text name given decided s seen named gives by is =
    performs_stop (rule_program (names_or_refusal files.bindfile (names_or_fault (bind_lines text)))) (components_report files text) s seen seen
    (subst (λ r. Performs {may = may_write_files} (rule_program (names_or_refusal files.bindfile (names_or_fault (bind_lines text)))) r seen seen) is
    (rule_given may_write_files given (names_or_refusal files.bindfile (names_or_fault (bind_lines text))) decided seen
    (subst (λ (n : List ℕ). IsRuleResult given (names_or_refusal n (names_or_fault (bind_lines text)))) named gives) by))

pub bind_read :
    (files : BindFiles) (name bytes text : List ℕ) (result : Result ReportFields Status) (old between new : Seen)
    → name ≡ files.bindfile → Performs {may = may_write_files} (file_bytes name) (Ok bytes) old between → text ≡ bytes
    → Performs {may = may_write_files} (text_report files text) result between new → Performs {may = may_write_files} (bind_report files) result old new
unfolding bind_report
bind_read files name bytes text result old between new named first same second =
    performs_then (file_bytes files.bindfile) (text_report files) bytes result old between new
    (bytes_as name files.bindfile (Ok bytes) old between named first)
    (subst (λ (t : List ℕ). Performs {may = may_write_files} (text_report files t) result between new) same second)

pub bind_unread :
    (files : BindFiles) (name : List ℕ) (s : Status) (old new : Seen) → name ≡ files.bindfile
    → Performs {may = may_write_files} (file_bytes name) (Err s) old new → Performs {may = may_write_files} (bind_report files) (Err s) old new
unfolding bind_report
bind_unread files name s old new named first =
    performs_stop (file_bytes files.bindfile) (text_report files) s old new (bytes_as name files.bindfile (Err s) old new named first)

pub bind_done :
    (files : BindFiles) (report : ReportFields) (result : Result (Unit {0}) Status) (old between new : Seen)
    → Performs {may = may_write_files} (bind_report files) (Ok report) old between → Performs (write_report report) result between new
    → Performs (bind_program files) result old new
unfolding bind_program
bind_done files report result old between new first second =
    performs_then (bind_report files) write_report report result old between new first second

pub bind_stop :
    (files : BindFiles) (s : Status) (old new : Seen) → Performs {may = may_write_files} (bind_report files) (Err s) old new
    → Performs (bind_program files) (Err s) old new
unfolding bind_program
bind_stop files s old new first = performs_stop (bind_report files) write_report s old new first

pub ruleset binds = (bind_done, bind_stop)

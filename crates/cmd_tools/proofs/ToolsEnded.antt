-- The commands read a report, and then end with Done unless a call fails or memory runs out.
use Rattle.std.proofs.Common.{◌≡◌, ℕ, false, List, [], ◌∷◌, Result, Ok, Err, refl, subst, inl, inr}
use Rattle.m36_outside.specs.declared.folder.WriteAnswer.{WriteAnswer}
use Rattle.m36_outside.specs.declared.folder.WriteAnswer.TheVariants as write
use Rattle.m36_dir.specs.Catalog.{CatalogFields}
use Rattle.m36_bindfile.specs.BindFile.{bind_lines, names_or_fault}
use Rattle.m36_bind.specs.Bound.{bound_object_of}
use Rattle.m36_world.specs.declared.event.Event.{Event}
use Rattle.m36_status.specs.declared.setting.Set.{Set}
use Rattle.m36_status.specs.declared.status.Status.{Status}
use Rattle.m36_status.specs.declared.status.Status.TheVariants.{WriteFault, NoMemory}
use Rattle.cmd_tools.specs.declared.alm_files.AlmFiles.{AlmFiles}
use Rattle.cmd_tools.specs.declared.bind_files.BindFiles.{BindFiles}
use Rattle.cmd_tools.specs.Accesses.{report_of_access}
use Rattle.cmd_tools.specs.Assemblies.{assembly_of}
use Rattle.cmd_tools.specs.Binding.{names_or_refusal, bind_report_or_refusal}
use Rattle.cmd_tools.specs.LinesIn.{lines_in}
use Rattle.cmd_tools.specs.PrintAndAlm.{report_of_print, alm_report_or_refusal}
use Rattle.cmd_tools.specs.Reports.{ReportFields}
use Rattle.cmd_tools.proofs.LineLaws.{lines_joined}
use Rattle.m36_program.specs.Alike.{Alike, IsEnd}
use Rattle.m36_program.specs.Goes.{AfterWrite, Goes}
use Rattle.m36_program.specs.HasNoDeadEnd.{HasNoDeadEnd}
use Rattle.m36_program.specs.Program.{May, quiet, Program, done, puts, puts_all, then_with}
use Rattle.m36_program.specs.Reader.{IsReader}
use Rattle.m36_program.specs.Readers.{file_bytes}
use Rattle.m36_program.proofs.AlikeLaws.{has_one_text}
use Rattle.m36_program.proofs.GoesLaws.{goes_failed}
use Rattle.m36_program.proofs.LiveLaws.{lives_puts, live_end}
use Rattle.m36_program.proofs.ReaderLaws.{reader_bytes, reader_then, reader_comes_done}
use Rattle.m36_files.specs.Catalogs.{boot_catalog, access_lists}
use Rattle.m36_files.specs.Deciding.{rule_program}
use Rattle.m36_files.specs.EachFile.{read_each}
use Rattle.m36_files.specs.FileReaders.{file_object}
use Rattle.m36_files.specs.Writing.{may_write_files}
use Rattle.m36_files.proofs.AreReaders.{reader_decides, reader_rule, object_reader, catalog_reader, lists_reader, each_reader}
use Rattle.m36_files.proofs.ReaderEnds.{reader_has_end}
use Rattle.cmd_tools.specs.Reporting.{writes_all, put_text, write_report}
use Rattle.cmd_tools.specs.ToolPrograms.{print_report, print_program, lists_report, access_report, access_program}
use Rattle.cmd_tools.specs.ToolPrograms.{alm_report, alm_program, components_report, text_report, bind_report, bind_program}
use Rattle.cmd_tools.specs.ToolLaws.{ToolLaw, ToolLaws}
use Rattle.cmd_tools.proofs.TextLaws.{print_alike, access_alike, alm_alike, bind_alike}

-- ---- each report is made by a reader

print_reader : (name : List ℕ) → IsReader {may = quiet} (print_report name)
unfolding print_report
print_reader name = reader_rule quiet (file_object name) (λ parts. Ok (report_of_print name parts)) (object_reader quiet name)

lists_report_reader : (user : List ℕ) (catalog : CatalogFields) → IsReader {may = quiet} (lists_report user catalog)
unfolding lists_report
lists_report_reader user catalog =
    reader_rule quiet (access_lists catalog) (λ lists. Ok (report_of_access user catalog lists)) (lists_reader quiet catalog)

access_report_reader : (user : List ℕ) → IsReader {may = quiet} (access_report user)
unfolding access_report
access_report_reader user = reader_then boot_catalog (lists_report user) (catalog_reader quiet) (lists_report_reader user)

alm_reader : (files : AlmFiles) → IsReader {may = may_write_files} (alm_report files)
unfolding alm_report
alm_reader files =
    reader_rule may_write_files (file_bytes files.source) (λ bytes. alm_report_or_refusal files (assembly_of bytes)) (reader_bytes may_write_files files.source)

components_reader :
    (files : BindFiles) (text : List ℕ) (names : List (List ℕ)) → IsReader {may = may_write_files} (components_report files text names)
unfolding components_report
components_reader files text names =
    reader_rule may_write_files (read_each file_object [] names) (λ objects. bind_report_or_refusal files (bound_object_of text names objects))
    (each_reader may_write_files file_object [] names (λ name. object_reader may_write_files name))

text_reader : (files : BindFiles) (text : List ℕ) → IsReader {may = may_write_files} (text_report files text)
unfolding text_report
text_reader files text =
    let names = names_or_refusal files.bindfile (names_or_fault (bind_lines text)) in
    reader_then (rule_program names) (components_report files text) (reader_decides may_write_files names) (components_reader files text)

bind_reader : (files : BindFiles) → IsReader {may = may_write_files} (bind_report files)
unfolding bind_report
bind_reader files =
    reader_then (file_bytes files.bindfile) (text_report files) (reader_bytes may_write_files files.bindfile) (text_reader files)

-- ---- what follows a report ends with Done, whenever it ends

not_failed : (result : Result (Unit {0}) Status) → result ≡ Err WriteFault → IsEnd result → ⊥
not_failed result is ended = let end : IsEnd {A = Unit {0}} (Err WriteFault) = subst (IsEnd {A = Unit {0}}) is ended in end

not_wanting : (result : Result (Unit {0}) Status) → result ≡ Err NoMemory → IsEnd result → ⊥
not_wanting result is ended = let end : IsEnd {A = Unit {0}} (Err NoMemory) = subst (IsEnd {A = Unit {0}}) is ended in end

pieces_done :
    (may : May) (pieces : List (List ℕ)) (events : List Event) (result : Result (Unit {0}) Status) → IsEnd result
    → Goes {may = may} (puts_all pieces (done tt)) events result → result ≡ Ok tt
unfolding Goes puts_all
pieces_done may [] events result ended goes = goes.result_is
pieces_done may (piece ∷ pieces) events result ended (inl goes) = pieces_done may pieces goes.more result ended goes.rest
pieces_done may (piece ∷ pieces) events result ended (inr failed) =
    absurd (not_failed result
    (goes_failed {may = may} (puts piece (puts_all pieces (done tt))) (piece ∷ failed.pieces) result
    (inr (record { pieces = failed.pieces; only = refl; rest = failed.rest }))) ended)

pub text_done :
    (may : May) (text : List ℕ) (events : List Event) (result : Result (Unit {0}) Status) → IsEnd result
    → Goes {may = may} (put_text text) events result → result ≡ Ok tt
unfolding put_text
text_done may text events result ended goes = pieces_done may (lines_in text) events result ended goes

write_done :
    (answer : WriteAnswer) (goes : List Event → Type 0) (more : List Event) (result : Result (Unit {0}) Status) → IsEnd result
    → (goes more → result ≡ Ok tt) → AfterWrite answer goes more result → result ≡ Ok tt
write_done write.Written goes more result ended on after = on after
write_done write.Failed goes more result ended on after = absurd (not_failed result after.result_is ended)
write_done write.NoMemory goes more result ended on after = absurd (not_wanting result after.result_is ended)

files_done :
    (files : List Set) (rest : Program may_write_files (Unit {0})) (events : List Event) (result : Result (Unit {0}) Status) → IsEnd result
    → ((more : List Event) → Goes rest more result → result ≡ Ok tt) → Goes (writes_all refl files rest) events result
    → result ≡ Ok tt
unfolding Goes writes_all
files_done [] rest events result ended on goes = on events goes
files_done (file ∷ files) rest events result ended on goes =
    write_done goes.answer (λ more. Goes (writes_all refl files rest) more result) goes.more result ended
    (λ after. files_done files rest goes.more result ended on after) goes.rest

pub report_done :
    (told : ReportFields) (events : List Event) (result : Result (Unit {0}) Status) → IsEnd result
    → Goes (write_report told) events result → result ≡ Ok tt
unfolding write_report
report_done told events result ended goes =
    files_done told.sets (put_text told.text) events result ended
    (λ more after. text_done may_write_files told.text more result ended after) goes

-- ---- and it has an end

text_lives : (may : May) (text : List ℕ) → HasNoDeadEnd {may = may} (put_text text)
unfolding HasNoDeadEnd put_text
text_lives may text = lives_puts {may = may} (lines_in text) (done tt) tt

files_live : (files : List Set) (rest : Program may_write_files (Unit {0})) → HasNoDeadEnd rest → HasNoDeadEnd (writes_all refl files rest)
unfolding HasNoDeadEnd writes_all
files_live [] rest live = live
files_live (file ∷ files) rest live = files_live files rest live

report_lives : (told : ReportFields) → HasNoDeadEnd (write_report told)
unfolding write_report
report_lives told = files_live told.sets (put_text told.text) (text_lives may_write_files told.text)

-- ---- a command

law_of :
    {may : May} (report : Program may ReportFields) (next : ReportFields → Program may (Unit {0})) → may.takes ≡ false
    → IsReader report → ((told : ReportFields) → HasNoDeadEnd (next told))
    → ((told : ReportFields) (events : List Event) (result : Result (Unit {0}) Status) → IsEnd result
    → Goes (next told) events result → result ≡ Ok tt)
    → Alike (then_with report next) (then_with report next) → ToolLaw report next (then_with report next)
law_of report next never is live ends alike = record {
  reads = is;
  rest_ends = λ told. live_end (next told) (live told);
  ends = λ files told gives. reader_has_end report next files told gives (live_end (next told) (live told));
  done = λ files told result old new same gives none performs.
      reader_comes_done report next files told result old new is same gives none
      (λ between same_files same_left on ended. ends told on.events result ended on.goes) performs;
  one_text = has_one_text (then_with report next) never alike;
}

print_law : (name : List ℕ) → ToolLaw (print_report name) (λ told. put_text told.text) (print_program name)
unfolding print_program
print_law name =
    law_of (print_report name) (λ told. put_text told.text) refl (print_reader name) (λ told. text_lives quiet told.text)
    (λ told events result ended goes. text_done quiet told.text events result ended goes) (print_alike name)

access_law : (user : List ℕ) → ToolLaw (access_report user) (λ told. put_text told.text) (access_program user)
unfolding access_program
access_law user =
    law_of (access_report user) (λ told. put_text told.text) refl (access_report_reader user) (λ told. text_lives quiet told.text)
    (λ told events result ended goes. text_done quiet told.text events result ended goes) (access_alike user)

alm_law : (files : AlmFiles) → ToolLaw (alm_report files) write_report (alm_program files)
unfolding alm_program
alm_law files = law_of (alm_report files) write_report refl (alm_reader files) report_lives report_done (alm_alike files)

bind_law : (files : BindFiles) → ToolLaw (bind_report files) write_report (bind_program files)
unfolding bind_program
bind_law files = law_of (bind_report files) write_report refl (bind_reader files) report_lives report_done (bind_alike files)

pub tool_laws : ToolLaws
tool_laws = record {
  lines = lines_joined;
  print = print_law;
  access = access_law;
  alm = alm_law;
  bind = bind_law;
}

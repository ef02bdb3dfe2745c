-- Files that are written one after another, and a text that is put line by line.
use Rattle.std.proofs.Common.{◌≡◌, ℕ, ◌+◌, ◌-◌, ◌<◌, ◌≤◌, List, [], ◌∷◌, length, take, drop, get_or, Result, Ok, Err, refl, sym, ap, subst, ◌∙◌, arith}
use Rattle.std.proofs.lemmas.List.{drop_more, drop_all}
use Rattle.m36_text.proofs.Splitting.{rest_whole}
use Rattle.m36_world.specs.Seen.{Seen}
use Rattle.m36_status.specs.declared.setting.Set.{Set}
use Rattle.m36_status.specs.declared.status.Status.{Status}
use Rattle.cmd_tools.specs.LinesIn.{lines_in}
use Rattle.cmd_tools.specs.Reports.{ReportFields}
use Rattle.m36_program.specs.Performs.{Performs, Leads}
use Rattle.m36_program.specs.Program.{May, Program, done, puts, puts_all, writes, then_with}
use Rattle.m36_program.specs.Readers.{put_one, write_one}
use Rattle.m36_program.proofs.LeadLaws.{leads_start, leads_as, leads_then, leads_stop, leads_ends, leads_put, leads_unput}
use Rattle.m36_program.proofs.Performing.{goes_done, performs_none, performs_then, performs_stop}
use Rattle.m36_files.specs.Writing.{may_write_files}
use Rattle.cmd_tools.specs.Reporting.{writes_all, put_text, write_files, write_report}

-- ---- a text

line_next :
    (may : May) (rest : List ℕ) (end : ℕ) → lines_in rest ≡ take end rest ∷ lines_in (drop end rest)
    → put_text {may = may} rest ≡ puts (take end rest) (put_text (drop end rest))
unfolding put_text puts_all
line_next may rest end cut = ap (λ lines. puts_all {may = may} lines (done tt)) cut

pub text_start : (may : May) (text : List ℕ) (seen : Seen) → Leads {may = may} (put_text text) (put_text text) seen seen
text_start may text seen = leads_start (put_text text) seen

-- a line was put
pub line_put :
    (may : May) (rest : List ℕ) (end : ℕ) (first : Program may (Unit {0})) (old between new : Seen)
    → lines_in rest ≡ take end rest ∷ lines_in (drop end rest) → Leads (put_text rest) first old between
    → Performs {may = may} (put_one (take end rest)) (Ok tt) between new
    → Leads (put_text (take (length rest - end) (drop end rest))) first old new
line_put may rest end first old between new cut left put =
    subst (λ (r : List ℕ). Leads (put_text r) first old new) (sym (rest_whole rest end))
    (leads_put (take end rest) (put_text (drop end rest)) first old between new
    (leads_as (put_text rest) _ first old between (line_next may rest end cut) left) put)

-- a line was not put
pub line_unput :
    (may : May) (rest : List ℕ) (end : ℕ) (first : Program may (Unit {0})) (s : Status) (old between new : Seen)
    → lines_in rest ≡ take end rest ∷ lines_in (drop end rest) → Leads (put_text rest) first old between
    → Performs {may = may} (put_one (take end rest)) (Err s) between new
    → Performs first (Err s) old new
line_unput may rest end first s old between new cut left put =
    leads_unput (take end rest) (put_text (drop end rest)) first s old between new
    (leads_as (put_text rest) _ first old between (line_next may rest end cut) left) put

-- nothing is left
none_left : (may : May) (rest : List ℕ) → length rest ≡ 0 → put_text {may = may} rest ≡ done tt
unfolding put_text puts_all lines_in
none_left may [] none = refl
none_left may (b ∷ rest) none = absurd (omega (arith, none))

pub text_end :
    (may : May) (rest : List ℕ) (first : Program may (Unit {0})) (old new : Seen)
    → length rest ≡ 0 → Leads (put_text rest) first old new → Performs first (Ok tt) old new
text_end may rest first old new none left =
    leads_ends (done tt) first (Ok tt) old new new (leads_as (put_text rest) (done tt) first old new (none_left may rest none) left)
    (performs_none (done tt) (Ok tt) new (goes_done may tt))

-- ---- files

file_next :
    (files : List Set) (i : ℕ) (file : Set) → i < length files → file ≡ get_or files i file
    → write_files (drop i files) ≡ then_with (write_one refl file.name file.content) (λ u. write_files (drop (i + 1) files))
unfolding write_files writes_all then_with write_one
file_next files i file inside at =
    ap write_files (drop_more files i file inside ∙ ap (λ f. f ∷ drop (i + 1) files) (sym at))

pub files_start : (files : List Set) (seen : Seen) → Leads (write_files files) (write_files files) seen seen
files_start files seen = leads_start (write_files files) seen

written_as :
    (file : Set) (name content : List ℕ) (result : Result (Unit {0}) Status) (old new : Seen)
    → name ≡ file.name → content ≡ file.content
    → Performs {may = may_write_files} (write_one refl name content) result old new
    → Performs {may = may_write_files} (write_one refl file.name file.content) result old new
written_as file name content result old new named filled performs =
    subst (λ (n : List ℕ). Performs {may = may_write_files} (write_one refl n file.content) result old new) named
    (subst (λ (t : List ℕ). Performs {may = may_write_files} (write_one refl name t) result old new) filled performs)

-- a file was written
pub file_written :
    (files : List Set) (i : ℕ) (file : Set) (name content : List ℕ) (first : Program may_write_files (Unit {0})) (old between new : Seen)
    → i < length files → file ≡ get_or files i file → name ≡ file.name → content ≡ file.content
    → Leads (write_files (drop i files)) first old between
    → Performs {may = may_write_files} (write_one refl name content) (Ok tt) between new
    → Leads (write_files (drop (i + 1) files)) first old new
file_written files i file name content first old between new inside at named filled left performs =
    leads_then (write_one refl file.name file.content) (λ u. write_files (drop (i + 1) files)) first tt old between new
    (leads_as (write_files (drop i files)) _ first old between (file_next files i file inside at) left)
    (written_as file name content (Ok tt) between new named filled performs)

-- a file was not written
pub file_unwritten :
    (files : List Set) (i : ℕ) (file : Set) (name content : List ℕ) (first : Program may_write_files (Unit {0})) (s : Status) (old between new : Seen)
    → i < length files → file ≡ get_or files i file → name ≡ file.name → content ≡ file.content
    → Leads (write_files (drop i files)) first old between
    → Performs {may = may_write_files} (write_one refl name content) (Err s) between new
    → Performs first (Err s) old new
file_unwritten files i file name content first s old between new inside at named filled left performs =
    leads_stop (write_one refl file.name file.content) (λ u. write_files (drop (i + 1) files)) first s old between new
    (leads_as (write_files (drop i files)) _ first old between (file_next files i file inside at) left)
    (written_as file name content (Err s) between new named filled performs)

none_more : (files : List Set) (i : ℕ) → length files ≤ i → write_files (drop i files) ≡ done tt
unfolding write_files writes_all
none_more files i past = ap write_files (drop_all i files past)

-- all files were written
pub files_end :
    (files : List Set) (i : ℕ) (first : Program may_write_files (Unit {0})) (old new : Seen)
    → length files ≤ i → Leads (write_files (drop i files)) first old new → Performs first (Ok tt) old new
files_end files i first old new past left =
    leads_ends (done tt) first (Ok tt) old new new (leads_as (write_files (drop i files)) (done tt) first old new (none_more files i past) left)
    (performs_none (done tt) (Ok tt) new (goes_done may_write_files tt))

-- ---- a report

pub then_rest :
    (files : List Set) (rest : Program may_write_files (Unit {0}))
    → then_with (write_files files) (λ u. rest) ≡ writes_all refl files rest
unfolding then_with write_files writes_all
then_rest [] rest = refl
then_rest (file ∷ files) rest = ap (writes refl file.name file.content) (then_rest files rest)

-- The files were written, and then the text was put.
pub report_put :
    (report : ReportFields) (files : List Set) (text : List ℕ) (result : Result (Unit {0}) Status) (old between new : Seen)
    → files ≡ report.sets → text ≡ report.text
    → Performs (write_files files) (Ok tt) old between → Performs {may = may_write_files} (put_text text) result between new
    → Performs (write_report report) result old new
unfolding write_report
report_put report files text result old between new files_are text_is first second =
    subst (λ p. Performs p result old new)
    (then_rest files (put_text text) ∙ ap (λ f. writes_all refl f (put_text text)) files_are
    ∙ ap (λ t. writes_all refl report.sets (put_text t)) text_is)
    (performs_then (write_files files) (λ u. put_text text) tt result old between new first second)

-- not all files of a report were written
pub report_unwritten :
    (report : ReportFields) (files : List Set) (s : Status) (old new : Seen) → files ≡ report.sets
    → Performs (write_files files) (Err s) old new → Performs (write_report report) (Err s) old new
unfolding write_report
report_unwritten report files s old new files_are first =
    subst (λ p. Performs p (Err s) old new)
    (then_rest files (put_text report.text) ∙ ap (λ f. writes_all refl f (put_text report.text)) files_are)
    (performs_stop (write_files files) (λ u. put_text report.text) s old new first)

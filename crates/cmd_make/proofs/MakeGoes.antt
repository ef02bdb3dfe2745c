-- The events of `make`, part by part: the files are made and written, and then booted.
use Rattle.std.proofs.Common.{◌≡◌, ◌⊎◌, ℕ, List, [], ◌∷◌, ◌++◌, Option, Some, None, Result, Ok, Err, refl, sym, ap}
use Rattle.std.proofs.Common.{subst, ◌∙◌, inl, inr}
use Rattle.m36_outside.specs.declared.folder.WriteAnswer.{WriteAnswer}
use Rattle.m36_outside.specs.declared.folder.WriteAnswer.TheVariants as write
use Rattle.m36_world.specs.declared.event.Event.{Event}
use Rattle.m36_world.specs.declared.event.Event.TheVariants.{FileWrite}
use Rattle.m36_super.specs.SuperFields.{SuperFields, booted_of}
use Rattle.m36_super.specs.BootResult.{IsBooted}
use Rattle.m36_status.specs.declared.setting.Set.{Set}
use Rattle.m36_status.specs.declared.status.Status.{Status}
use Rattle.m36_status.specs.declared.status.Status.TheVariants.{WriteFault, NoMemory}
use Rattle.m36_status.specs.Refusing.{RuleResult}
use Rattle.m36_program.specs.Alike.{IsEnd}
use Rattle.m36_program.specs.Goes.{Ends, AfterWrite, Goes}
use Rattle.m36_program.specs.Program.{quiet, Program, then_with}
use Rattle.m36_program.specs.Reader.{IsReader}
use Rattle.m36_program.specs.Split.{BothGo, FirstEnds}
use Rattle.m36_program.specs.MayHappen.{pieces_of}
use Rattle.m36_program.proofs.GoesLaws.{goes_then, goes_stop}
use Rattle.m36_program.proofs.ReaderLaws.{reader_wants, reader_split}
use Rattle.m36_files.specs.Deciding.{rule_program}
use Rattle.m36_files.specs.Writing.{may_write_files}
use Rattle.cmd_folder.specs.Folder.{FolderFields}
use Rattle.cmd_folder.specs.FolderProgram.{folder_given}
use Rattle.cmd_folder.specs.OnFolder.{AreFolderFindings}
use Rattle.cmd_folder.proofs.FolderReader.{folder_reader}
use Rattle.cmd_tools.specs.Reporting.{writes_all}
use Rattle.cmd_make.specs.InMemory.{in_memory}
use Rattle.cmd_make.specs.MadeLaw.{all_written}
use Rattle.cmd_make.specs.Made.{boot_files, boot_outcome}
use Rattle.cmd_make.specs.MakeProgram.{make_after_audit, on_system, on_booted, boot_made, write_and_boot, make_program}
use Rattle.cmd_make.specs.Making.{files_in, files_of_seed}
use Rattle.cmd_make.specs.Within.{widen}
use Rattle.cmd_make.proofs.InMemoryLaws.{in_memory_reader, in_memory_ends, in_memory_goes, outcome_end}
use Rattle.cmd_make.proofs.SummaryEnds.{end_is}
use Rattle.cmd_make.proofs.WithinLaws.{goes_within, goes_quiet}

-- ---- making

-- The files of the seed were made, or memory ran out.
pub made_goes :
    (seed : ℕ) (sets : List Set) (events : List Event) (result : Result (Unit {0}) Status)
    → files_of_seed seed ≡ Ok sets → Goes (make_program seed) events result
    → Goes (write_and_boot sets) events result ⊎ Ends (Err NoMemory) events result
unfolding Goes then_with rule_program make_program
made_goes seed sets events result is goes =
    subst (λ (rule : RuleResult (List Set)). Goes {may = may_write_files} (then_with (rule_program rule) write_and_boot) events result) is
    goes

pub made_then :
    (seed : ℕ) (sets : List Set) (events : List Event) (result : Result (Unit {0}) Status)
    → files_of_seed seed ≡ Ok sets → Goes (write_and_boot sets) events result → Goes (make_program seed) events result
unfolding Goes then_with rule_program make_program
made_then seed sets events result is goes =
    subst (λ (rule : RuleResult (List Set)). Goes {may = may_write_files} (then_with (rule_program rule) write_and_boot) events result)
    (sym is) (inl goes)

-- ---- writing

-- All files were written, and then the rest of the program followed.
pub record WritesThen (sets : List Set) (rest : Program may_write_files (Unit {0})) (events : List Event)
    (result : Result (Unit {0}) Status)
    : Type 0 where
  pub more : List Event
  pub is : events ≡ all_written sets ++ more
  pub goes : Goes rest more result

-- A write ended the program.
pub record WriteEnds (events : List Event) (result : Result (Unit {0}) Status) : Type 0 where
  pub none : pieces_of events ≡ []
  pub unended : IsEnd result → ⊥

abbrev WritesSplit : List Set → Program may_write_files (Unit {0}) → List Event → Result (Unit {0}) Status → Type 0
WritesSplit sets rest events result = WritesThen sets rest events result ⊎ WriteEnds events result

write_ends :
    (set : Set) (answer : WriteAnswer) (s : Status) (more events : List Event) (result : Result (Unit {0}) Status)
    → events ≡ FileWrite set.name set.content answer ∷ more → Ends (Err s) more result
    → (IsEnd {A = Unit {0}} (Err s) → ⊥)
    → WriteEnds events result
write_ends set answer s more events result first ends never = record {
  none = ap pieces_of first ∙ ap pieces_of ends.none;
  unended = λ ended. never (end_is result s ends.result_is ended);
}

first_written :
    (answer : WriteAnswer) (set : Set) (sets : List Set) (rest : Program may_write_files (Unit {0})) (more events : List Event)
    (result : Result (Unit {0}) Status)
    → events ≡ FileWrite set.name set.content answer ∷ more
    → (Goes (writes_all refl sets rest) more result → WritesSplit sets rest more result)
    → AfterWrite answer (λ later. Goes (writes_all refl sets rest) later result) more result
    → WritesSplit (set ∷ sets) rest events result
first_written write.Written set sets rest more events result first on after =
    elim (on after) [
      | inl then ↦ inl (record {
        more = then.more;
        is = first ∙ ap (λ l. FileWrite set.name set.content write.Written ∷ l) then.is;
        goes = then.goes;
      })
      | inr ends ↦ inr (record { none = ap pieces_of first ∙ ends.none; unended = ends.unended })
    ]
first_written write.Failed set sets rest more events result first on after =
    inr (write_ends set write.Failed WriteFault more events result first after (λ ended. ended))
first_written write.NoMemory set sets rest more events result first on after =
    inr (write_ends set write.NoMemory NoMemory more events result first after (λ ended. ended))

writes_split :
    (sets : List Set) (rest : Program may_write_files (Unit {0})) (events : List Event) (result : Result (Unit {0}) Status)
    → Goes (writes_all refl sets rest) events result → WritesSplit sets rest events result
unfolding Goes writes_all
writes_split [] rest events result goes = inl (record { more = events; is = refl; goes = goes })
writes_split (set ∷ sets) rest events result goes =
    first_written goes.answer set sets rest goes.more events result goes.first
    (λ on. writes_split sets rest goes.more result on) goes.rest

-- All files were written, and then booted.
pub record WritesAndBoots (sets : List Set) (events : List Event) (result : Result (Unit {0}) Status) : Type 0 where
  pub more : List Event
  pub is : events ≡ all_written sets ++ more
  pub goes : Goes (boot_made sets) more result

pub write_split :
    (sets : List Set) (events : List Event) (result : Result (Unit {0}) Status)
    → Goes (write_and_boot sets) events result → WritesAndBoots sets events result ⊎ WriteEnds events result
unfolding write_and_boot
write_split sets events result goes =
    elim (writes_split sets (widen (boot_made sets)) events result goes) [
      | inl then ↦ inl (record {
        more = then.more;
        is = then.is;
        goes = goes_quiet may_write_files (boot_made sets) then.more result then.goes;
      })
      | inr ends ↦ inr ends
    ]

writes_then :
    (sets : List Set) (rest : Program may_write_files (Unit {0})) (more : List Event) (result : Result (Unit {0}) Status)
    → Goes rest more result → Goes (writes_all refl sets rest) (all_written sets ++ more) result
unfolding Goes writes_all
writes_then [] rest more result goes = goes
writes_then (set ∷ sets) rest more result goes = record {
  answer = write.Written;
  more = all_written sets ++ more;
  first = refl;
  rest = writes_then sets rest more result goes;
}

pub write_then :
    (sets : List Set) (more : List Event) (result : Result (Unit {0}) Status)
    → Goes (boot_made sets) more result → Goes (write_and_boot sets) (all_written sets ++ more) result
unfolding write_and_boot
write_then sets more result goes =
    writes_then sets (widen (boot_made sets)) more result (goes_within may_write_files (boot_made sets) more result goes)

-- files put nothing
pub pieces_written : (sets : List Set) (more : List Event) → pieces_of (all_written sets ++ more) ≡ pieces_of more
pieces_written [] more = refl
pieces_written (set ∷ sets) more = pieces_written sets more

-- ---- booting

boots_reader : (sets : List Set) → IsReader (boot_files sets)
unfolding boot_files
boots_reader sets =
    reader_wants (in_memory (files_in sets) (folder_given None))
    (in_memory_reader (files_in sets) (folder_given {may = quiet} None) (folder_reader quiet None))

-- There are no events. Memory ran out, or the result is what the files boot to.
boots_end :
    (sets : List Set) (events : List Event) (result : Result FolderFields Status)
    → Goes (boot_files sets) events result
    → (events ≡ []) × ((result ≡ Err NoMemory) ⊎ (boot_outcome sets ≡ Some result))
unfolding Goes boot_files boot_outcome
boots_end sets events result (inl goes) =
    in_memory_ends (files_in sets) (folder_given {may = quiet} None) events result (folder_reader quiet None) goes
boots_end sets events result (inr ends) = (ends.none, inl ends.result_is)

boots_goes :
    (sets : List Set) (result : Result FolderFields Status) → boot_outcome sets ≡ Some result
    → Goes (boot_files sets) [] result
unfolding Goes boot_files boot_outcome
boots_goes sets result is = inl (in_memory_goes (files_in sets) (folder_given {may = quiet} None) result is)

-- a refusal is an end of the program
pub refused_is_end : (sets : List Set) (s : Status) → boot_outcome sets ≡ Some (Err s) → IsEnd {A = FolderFields} (Err s)
unfolding boot_outcome
refused_is_end sets s boots = outcome_end (files_in sets) (folder_given {may = quiet} None) (Err s) boots

-- The files booted.
pub record BootsThen (sets : List Set) (events : List Event) (result : Result (Unit {0}) Status) : Type 0 where
  pub given : FolderFields
  pub boots : boot_outcome sets ≡ Some (Ok given)
  pub goes : Goes (on_booted given) events result

-- The files were refused.
pub record BootsNot (sets : List Set) (events : List Event) (result : Result (Unit {0}) Status) : Type 0 where
  pub status : Status
  pub none : events ≡ []
  pub result_is : result ≡ Err status
  pub boots : boot_outcome sets ≡ Some (Err status)

-- The files booted; or they were refused; or memory ran out.
abbrev pub BootSplit : List Set → List Event → Result (Unit {0}) Status → Type 0
BootSplit sets events result =
    BootsThen sets events result ⊎ BootsNot sets events result ⊎ Ends (Err NoMemory) events result

value_given :
    (sets : List Set) (first : List Event) (value : FolderFields) (outcome : Option (Result FolderFields Status))
    → (let r : Result FolderFields Status = Ok value in r ≡ Err NoMemory) ⊎ (outcome ≡ Some (Ok value))
    → outcome ≡ Some (Ok value)
value_given sets first value outcome (inl memory) = absurd (cc)
value_given sets first value outcome (inr is) = is

boots_on :
    (sets : List Set) (events : List Event) (result : Result (Unit {0}) Status)
    → BothGo (boot_files sets) on_booted events result → BootsThen sets events result
boots_on sets events result both =
    let booted = boots_end sets both.first (Ok both.value) both.begins in
    let same : events ≡ both.more = both.is ∙ ap (λ l. l ++ both.more) booted.0 in
    record {
      given = both.value;
      boots = value_given sets both.first both.value (boot_outcome sets) booted.1;
      goes = subst (λ e. Goes (on_booted both.value) e result) (sym same) both.goes_on;
    }

status_given :
    (sets : List Set) (events : List Event) (result : Result (Unit {0}) Status) (s : Status)
    → result ≡ Err s → events ≡ []
    → (let r : Result FolderFields Status = Err s in r ≡ Err NoMemory) ⊎ (boot_outcome sets ≡ Some (Err s))
    → BootSplit sets events result
status_given sets events result s is none (inl memory) =
    let same : s ≡ NoMemory = cc in
    inr (inr (record {
      none = none;
      result_is = is
          ∙ ap (λ (t : Status). let failed : Result (Unit {0}) Status = Err t in failed) same;
    }))
status_given sets events result s is none (inr boots) =
    inr (inl (record { status = s; none = none; result_is = is; boots = boots }))

boots_stop :
    (sets : List Set) (events : List Event) (result : Result (Unit {0}) Status)
    → FirstEnds {B = Unit {0}} (boot_files sets) events result → BootSplit sets events result
boots_stop sets events result ends =
    let booted = boots_end sets events (Err ends.status) ends.goes in
    status_given sets events result ends.status ends.result_is booted.0 booted.1

pub boot_split :
    (sets : List Set) (events : List Event) (result : Result (Unit {0}) Status)
    → Goes (boot_made sets) events result → BootSplit sets events result
unfolding boot_made
boot_split sets events result goes =
    elim (reader_split (boot_files sets) on_booted events result (boots_reader sets) goes) [
      | inl both ↦ inl (boots_on sets events result both)
      | inr ends ↦ boots_stop sets events result ends
    ]

pub boot_then :
    (sets : List Set) (given : FolderFields) (events : List Event) (result : Result (Unit {0}) Status)
    → boot_outcome sets ≡ Some (Ok given) → Goes (on_booted given) events result → Goes (boot_made sets) events result
unfolding boot_made
boot_then sets given events result boots goes =
    goes_then (boot_files sets) on_booted [] events given result (boots_goes sets (Ok given) boots) goes

pub boot_stop :
    (sets : List Set) (s : Status) → boot_outcome sets ≡ Some (Err s) → Goes (boot_made sets) [] (Err s)
unfolding boot_made
boot_stop sets s boots = goes_stop (boot_files sets) on_booted [] s (boots_goes sets (Err s) boots)

-- ---- the system

-- The system was audited, and these findings were reported.
pub record SystemFound (given : FolderFields) (events : List Event) (result : Result (Unit {0}) Status) : Type 0 where
  pub system : SuperFields
  pub booted : IsBooted given.lib system
  pub findings : List (ℕ × ℕ)
  pub found : AreFolderFindings given.lib system findings
  pub goes : Goes (make_after_audit given.lib (booted_of system) findings) events result

system_split :
    (given : FolderFields) (system : SuperFields) (events : List Event) (result : Result (Unit {0}) Status)
    → IsBooted given.lib system → Goes (on_system given.lib system) events result
    → SystemFound given events result ⊎ Ends (Err NoMemory) events result
unfolding Goes on_system
system_split given system events result booted (inl goes) =
    inl (record { system = system; booted = booted; findings = goes.value; found = goes.is; goes = goes.rest })
system_split given system events result booted (inr ends) = inr ends

pub booted_split :
    (given : FolderFields) (events : List Event) (result : Result (Unit {0}) Status)
    → Goes (on_booted given) events result → SystemFound given events result ⊎ Ends (Err NoMemory) events result
unfolding Goes on_booted
booted_split given events result goes = system_split given goes.value events result goes.is goes.rest

pub booted_then :
    (given : FolderFields) (system : SuperFields) (findings : List (ℕ × ℕ)) (events : List Event)
    (result : Result (Unit {0}) Status)
    → IsBooted given.lib system → AreFolderFindings given.lib system findings
    → Goes (make_after_audit given.lib (booted_of system) findings) events result → Goes (on_booted given) events result
unfolding Goes on_booted on_system
booted_then given system findings events result booted found goes =
    record { value = system; is = booted; rest = inl (record { value = findings; is = found; rest = goes }) }

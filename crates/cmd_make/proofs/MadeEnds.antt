-- What a call of `make` that ends by itself writes and puts; that there is one; and the laws of both.
use Rattle.std.proofs.Common.{◌≡◌, ◌⊎◌, ℕ, false, List, [], ◌∷◌, ◌++◌, Some, Result, Ok, Err, sym, ap, subst, ◌∙◌, inl}
use Rattle.std.proofs.Common.{inr}
use Rattle.std.proofs.lemmas.List.{append-nil}
use Rattle.m36_model.specs.Audit.{AreFindings, IsAudited}
use Rattle.m36_model.specs.BootedCore.{booted_dbr}
use Rattle.m36_model.specs.Registers.{RegsFields}
use Rattle.m36_model.specs.StoreLaw.{Each}
use Rattle.m36_isol.proofs.Findings.{findings_law}
use Rattle.m36_step.specs.declared.turns.Turn.{Turn}
use Rattle.m36_super.specs.Library.{Library}
use Rattle.m36_super.specs.FlatRun.{FlatRun}
use Rattle.m36_super.specs.BootedRun.{Booted}
use Rattle.m36_super.specs.SuperFields.{SuperFields, booted_of}
use Rattle.m36_super.specs.TurnLaws.{IsPlainTurn}
use Rattle.m36_super.specs.BootResult.{IsBooted}
use Rattle.m36_super.proofs.BootTurns.{start_next}
use Rattle.m36_world.specs.Follow.{outputs}
use Rattle.m36_world.specs.declared.event.Event.{Event}
use Rattle.m36_status.specs.declared.refusal.Refusal.{Refusal}
use Rattle.m36_status.specs.declared.refusal.Refusal.TheVariants.{BadFile, NoMemory}
use Rattle.m36_status.specs.declared.setting.Set.{Set}
use Rattle.m36_status.specs.declared.status.Status.{Status}
use Rattle.m36_status.specs.declared.status.Status.TheVariants as status
use Rattle.m36_status.specs.Refusing.{status_of, RuleResult}
use Rattle.m36_program.specs.Alike.{IsEnd}
use Rattle.m36_program.specs.Early.{result_of_status, MayEnd, ends}
use Rattle.m36_program.specs.Ended.{HasEnd}
use Rattle.m36_program.specs.Goes.{Ends, Goes}
use Rattle.m36_program.specs.Program.{quiet, then_with}
use Rattle.m36_program.proofs.GoesLaws.{goes_then}
use Rattle.m36_program.proofs.ProgramLaws.{goes_ends}
use Rattle.m36_program.proofs.PutLaws.{goes_puts}
use Rattle.m36_files.specs.Deciding.{rule_program}
use Rattle.m36_files.specs.Writing.{may_write_files}
use Rattle.cmd_image.specs.ImageAudit.{audit_status}
use Rattle.cmd_image.proofs.SomeFindings.{some_findings}
use Rattle.cmd_folder.specs.declared.finish.Finish.{Finish}
use Rattle.cmd_folder.specs.Folder.{FolderFields}
use Rattle.cmd_folder.specs.RunText.{turns_step_count, finish_status}
use Rattle.cmd_folder.specs.Runs.{Finishes}
use Rattle.cmd_folder.specs.Runs as runs
use Rattle.cmd_folder.proofs.OneRunLaws.{one_run_here}
use Rattle.cmd_folder.proofs.OneSystem.{one_system}
use Rattle.cmd_image.specs.ImageProgram.{audit_may_end}
use Rattle.cmd_folder.specs.RunProgram.{finish_may_end}
use Rattle.cmd_folder.proofs.FolderSteps.{found_passes}
use Rattle.cmd_make.specs.Made.{boot_outcome}
use Rattle.cmd_make.specs.MadeLaw.{GoesToEnd, HasOneEnd, all_written, WritesAndPuts, PutsRun, PutsFindings, BootsTo}
use Rattle.cmd_make.specs.MadeLaw.{MadeLaw}
use Rattle.cmd_make.specs.MakeProgram.{put_summary, run_and_summarise, make_after_audit, write_and_boot, make_program}
use Rattle.cmd_make.specs.Making.{files_of_seed}
use Rattle.cmd_make.specs.QuietRun.{RunSummary, run_from}
use Rattle.cmd_make.specs.Summary.{run_limit, segment_count, head_pieces, end_pieces}
use Rattle.cmd_make.proofs.MakeGoes.{made_goes, made_then, WritesAndBoots, WriteEnds, write_split, write_then}
use Rattle.cmd_make.proofs.MakeGoes.{BootsThen, BootSplit, boot_split, boot_then, boot_stop, refused_is_end}
use Rattle.cmd_make.proofs.MakeGoes.{SystemFound, booted_split, booted_then}
use Rattle.cmd_make.proofs.RunGone.{Gone, run_ends}
use Rattle.cmd_make.proofs.SummaryEnds.{end_is, PutsFor, found_puts}

-- ---- a call that ends by itself

-- memory did not run out
no_memory :
    {P : Type 0} (events : List Event) (result : Result (Unit {0}) Status) → IsEnd result
    → Ends (Err status.NoMemory) events result → P
no_memory events result ended ends = absurd (end_is result _ ends.result_is ended)

-- all files were written
all_end :
    (sets : List Set) (events : List Event) (result : Result (Unit {0}) Status)
    → IsEnd result → WritesAndBoots sets events result ⊎ WriteEnds events result → WritesAndBoots sets events result
all_end sets events result ended (inl then) = then
all_end sets events result ended (inr ends) = absurd (ends.unended ended)

-- the files booted, if they boot to this
boots_end :
    (sets : List Set) (given : FolderFields) (events : List Event) (result : Result (Unit {0}) Status)
    → boot_outcome sets ≡ Some (Ok given) → IsEnd result → BootSplit sets events result → BootsThen sets events result
boots_end sets given events result boots ended (inl then) = then
boots_end sets given events result boots ended (inr (inl refused)) = absurd (let other = refused.boots in cc)
boots_end sets given events result boots ended (inr (inr ends)) = no_memory events result ended ends

audit_end :
    (given : FolderFields) (events : List Event) (result : Result (Unit {0}) Status)
    → IsEnd result → SystemFound given events result ⊎ Ends (Err status.NoMemory) events result
    → SystemFound given events result
audit_end given events result ended (inl found) = found
audit_end given events result ended (inr ends) = no_memory events result ended ends

-- What is put is that for the findings of a system that the files boot to.
pub record EndsFound (sets : List Set) (given : FolderFields) (events : List Event) (result : Result (Unit {0}) Status)
    : Type 0 where
  pub system : SuperFields
  pub booted : IsBooted given.lib system
  pub findings : List (ℕ × ℕ)
  pub found : AreFindings system.core booted_dbr findings
  pub puts : PutsFor findings sets given.lib (booted_of system) events result

same_given : (a b : FolderFields) → (let r : Result FolderFields Status = Ok a in Some r ≡ Some (Ok b)) → a ≡ b
same_given a b is = cc

pub ends_found :
    (sets : List Set) (given : FolderFields) (events : List Event) (result : Result (Unit {0}) Status)
    → boot_outcome sets ≡ Some (Ok given) → GoesToEnd (write_and_boot sets) events result
    → EndsFound sets given events result
ends_found sets given events result boots goes =
    let ended = goes.is_end in
    let all = all_end sets events result ended (write_split sets events result goes.goes) in
    let then = boots_end sets given all.more result boots ended (boot_split sets all.more result all.goes) in
    let same : then.given ≡ given = same_given then.given given (sym then.boots ∙ boots) in
    let found =
    audit_end then.given all.more result ended (booted_split then.given all.more result then.goes) in
    subst (λ g. EndsFound sets g events result) same (record {
      system = found.system;
      booted = found.booted;
      findings = found.findings;
      found = found.found.found;
      puts = found_puts found.findings sets then.given.lib (booted_of found.system) all.more events result
          (start_next then.given.lib found.system found.booted) ended all.is found.goes;
    })

-- the same of the one system
pub record FoundBy (sets : List Set) (given : FolderFields) (system : SuperFields) (events : List Event)
    (result : Result (Unit {0}) Status) : Type 0 where
  pub findings : List (ℕ × ℕ)
  pub found : AreFindings system.core booted_dbr findings
  pub puts : PutsFor findings sets given.lib (booted_of system) events result

found_by :
    (sets : List Set) (given : FolderFields) (system : SuperFields) (events : List Event)
    (result : Result (Unit {0}) Status)
    → BootsTo sets given system → GoesToEnd (write_and_boot sets) events result
    → FoundBy sets given system events result
found_by sets given system events result to goes =
    let f = ends_found sets given events result to.boots goes in
    let same : f.system ≡ system = one_system given.lib f.system system f.booted to.booted in
    subst (λ (s : SuperFields). FoundBy sets given s events result) same
    (record { findings = f.findings; found = f.found; puts = f.puts })

-- ---- by the files

refused_end :
    (sets : List Set) (s : Status) (more events : List Event) (result : Result (Unit {0}) Status)
    → boot_outcome sets ≡ Some (Err s) → IsEnd result → events ≡ all_written sets ++ more → BootSplit sets more result
    → (events ≡ all_written sets) × (result ≡ Err s)
refused_end sets s more events result boots ended is (inl then) = absurd (let other = then.boots in cc)
refused_end sets s more events result boots ended is (inr (inl refused)) =
    let other = refused.boots in
    let same : refused.status ≡ s = cc in (
      is ∙ ap (λ l. all_written sets ++ l) refused.none ∙ append-nil (all_written sets),
      refused.result_is ∙ ap (λ (t : Status). let failed : Result (Unit {0}) Status = Err t in failed) same,
    )
refused_end sets s more events result boots ended is (inr (inr ends)) = no_memory more result ended ends

refused_by :
    (sets : List Set) (s : Status) (events : List Event) (result : Result (Unit {0}) Status)
    → boot_outcome sets ≡ Some (Err s) → GoesToEnd (write_and_boot sets) events result
    → (events ≡ all_written sets) × (result ≡ Err s)
refused_by sets s events result boots goes =
    let all = all_end sets events result goes.is_end (write_split sets events result goes.goes) in
    refused_end sets s all.more events result boots goes.is_end all.is (boot_split sets all.more result all.goes)

-- ---- by the conditions of the audit

passed_by :
    (sets : List Set) (given : FolderFields) (system : SuperFields) (events : List Event)
    (result : Result (Unit {0}) Status)
    → BootsTo sets given system → IsAudited system.core booted_dbr → GoesToEnd (write_and_boot sets) events result
    → PutsRun sets given.lib (booted_of system) events result
passed_by sets given system events result to audited goes =
    let f = found_by sets given system events result to goes in
    let none : f.findings ≡ [] = findings_law.complete system.core booted_dbr f.findings audited f.found in
    subst (λ (l : List (ℕ × ℕ)). PutsFor l sets given.lib (booted_of system) events result) none f.puts

some_found :
    (findings : List (ℕ × ℕ)) (sets : List Set) (lib : Library) (system : SuperFields) (events : List Event)
    (result : Result (Unit {0}) Status)
    → AreFindings system.core booted_dbr findings → ¬ IsAudited system.core booted_dbr
    → PutsFor findings sets lib (booted_of system) events result → PutsFindings sets lib events result
some_found [] sets lib system events result found fails puts =
    absurd (fails (findings_law.sound system.core booted_dbr found))
some_found (f ∷ findings) sets lib system events result found fails puts =
    record { first = f; others = findings; puts = puts }

failed_by :
    (sets : List Set) (given : FolderFields) (system : SuperFields) (events : List Event)
    (result : Result (Unit {0}) Status)
    → BootsTo sets given system → ¬ IsAudited system.core booted_dbr → GoesToEnd (write_and_boot sets) events result
    → PutsFindings sets given.lib events result
failed_by sets given system events result to fails goes =
    let f = found_by sets given system events result to goes in
    some_found f.findings sets given.lib system events result f.found fails f.puts

-- ---- one end

same_puts :
    (sets : List Set) (pieces : List (List ℕ)) (s : Status) (events others : List Event)
    (result other : Result (Unit {0}) Status)
    → WritesAndPuts sets pieces s events result → WritesAndPuts sets pieces s others other → (events ≡ others)
    × (result ≡ other)
same_puts sets pieces s events others result other one also =
    (one.events_are ∙ sym also.events_are, one.result_is ∙ sym also.result_is)

-- both of two calls, by the same findings
abbrev AreSame : List (ℕ × ℕ) → List Set → Library → SuperFields → Type 0
AreSame findings sets lib system =
    (events others : List Event) (result other : Result (Unit {0}) Status)
    → PutsFor findings sets lib (booted_of system) events result
    → PutsFor findings sets lib (booted_of system) others other
    → (events ≡ others) × (result ≡ other)

one_by :
    (sets : List Set) (given : FolderFields) (system : SuperFields) → BootsTo sets given system
    → ((findings : List (ℕ × ℕ)) → AreFindings system.core booted_dbr findings → AreSame findings sets given.lib system)
    → HasOneEnd (write_and_boot sets)
one_by sets given system to same events others result other goes also =
    let f = found_by sets given system events result to goes in
    let g = found_by sets given system others other to also in
    let one : g.findings ≡ f.findings = findings_law.unique system.core booted_dbr g.findings f.findings g.found
    f.found in
    same f.findings f.found events others result other f.puts
    (subst (λ (l : List (ℕ × ℕ)). PutsFor l sets given.lib (booted_of system) others other) one g.puts)

failed_same :
    (findings : List (ℕ × ℕ)) (sets : List Set) (lib : Library) (system : SuperFields)
    → ¬ IsAudited system.core booted_dbr → AreFindings system.core booted_dbr findings
    → AreSame findings sets lib system
failed_same [] sets lib system fails found events others result other one also =
    absurd (fails (findings_law.sound system.core booted_dbr found))
failed_same (f ∷ findings) sets lib system fails found events others result other one also =
    same_puts sets (head_pieces (segment_count lib) (f ∷ findings)) status.AuditNo events others result other one also

failed_one :
    (sets : List Set) (given : FolderFields) (system : SuperFields)
    → BootsTo sets given system → ¬ IsAudited system.core booted_dbr → HasOneEnd (write_and_boot sets)
failed_one sets given system to fails =
    one_by sets given system to (λ findings found. failed_same findings sets given.lib system fails found)

-- the lines of a run, by its turns, its end and the registers that it left
abbrev run_lines : Library → List Turn → Finish → RegsFields → List (List ℕ)
run_lines lib turns how regs = head_pieces (segment_count lib) [] ++ end_pieces (Some how) (turns_step_count turns) regs

plain_run :
    (sets : List Set) (lib : Library) (system : SuperFields) (turns : List Turn) (last : Booted) (how : Finish)
    (events : List Event)
    (result : Result (Unit {0}) Status)
    → IsBooted lib system → runs.Goes lib run_limit (booted_of system) turns last
    → Finishes how lib run_limit turns last
    → Each IsPlainTurn turns → PutsRun sets lib (booted_of system) events result
    → WritesAndPuts sets (run_lines lib turns how last.state.regs) (finish_status (Some how)) events result
plain_run sets lib system turns last how events result booted goes finishes plain run =
    let one = one_run_here lib run_limit system turns run.turns last run.last how run.how booted goes run.goes finishes
    run.finishes plain in
    let turns_are = one.turns_are in
    let end_is = one.end_is in
    let regs : last.state.regs ≡ run.last.state.regs = ap (λ (r : FlatRun). r.state.regs) one.left_is in
    let lines : run_lines lib turns how last.state.regs ≡ run_lines lib run.turns run.how run.last.state.regs =
    λ i. run_lines lib (turns_are i) (end_is i) (regs i) in
    record {
      events_are = run.puts.events_are ∙ ap (λ l. all_written sets ++ outputs l) (sym lines);
      result_is = run.puts.result_is ∙ ap (λ (h : Finish). result_of_status (finish_status (Some h))) (sym end_is);
    }

plain_same :
    (findings : List (ℕ × ℕ)) (sets : List Set) (lib : Library) (system : SuperFields) (turns : List Turn)
    (last : Booted) (how : Finish)
    → IsBooted lib system → runs.Goes lib run_limit (booted_of system) turns last
    → Finishes how lib run_limit turns last
    → Each IsPlainTurn turns → AreSame findings sets lib system
plain_same [] sets lib system turns last how booted goes finishes plain events others result other one also =
    same_puts sets (run_lines lib turns how last.state.regs) (finish_status (Some how)) events others result other
    (plain_run sets lib system turns last how events result booted goes finishes plain one)
    (plain_run sets lib system turns last how others other booted goes finishes plain also)
plain_same (f ∷ findings) sets lib system turns last how booted goes finishes plain events others result other one
    also =
    same_puts sets (head_pieces (segment_count lib) (f ∷ findings)) status.AuditNo events others result other one also

plain_one :
    (sets : List Set) (given : FolderFields) (system : SuperFields) (turns : List Turn) (last : Booted) (how : Finish)
    → BootsTo sets given system → runs.Goes given.lib run_limit (booted_of system) turns last
    → Finishes how given.lib run_limit turns last → Each IsPlainTurn turns → HasOneEnd (write_and_boot sets)
plain_one sets given system turns last how to goes finishes plain =
    one_by sets given system to
    (λ findings found. plain_same findings sets given.lib system turns last how to.booted goes finishes plain)

-- ---- some end

refused_some : (sets : List Set) (s : Status) → boot_outcome sets ≡ Some (Err s) → HasEnd (write_and_boot sets)
refused_some sets s boots none =
    none (all_written sets ++ []) (Err s) (write_then sets [] (Err s) (boot_stop sets s boots))
    (refused_is_end sets s boots)

-- a way to an end of the program of a system
pub record Way (lib : Library) (first : Booted) (findings : List (ℕ × ℕ)) : Type 0 where
  pub events : List Event
  pub result : Result (Unit {0}) Status
  pub goes : Goes (make_after_audit lib first findings) events result
  pub is_end : IsEnd result

-- There is a list of findings, so it is enough to have a way for each list.
way_end :
    (sets : List Set) (given : FolderFields) (system : SuperFields) → BootsTo sets given system
    → ((findings : List (ℕ × ℕ)) → AreFindings system.core booted_dbr findings
    → Way given.lib (booted_of system) findings)
    → HasEnd (write_and_boot sets)
way_end sets given system to ways none =
    some_findings system.core booted_dbr (λ findings found.
    let way = ways findings found in
    none (all_written sets ++ way.events) way.result
    (write_then sets way.events way.result
    (boot_then sets given way.events way.result to.boots
    (booted_then given system findings way.events way.result to.booted
    (record { found = found; passes = found_passes given.lib system findings to.booted found }) way.goes)))
    way.is_end)

unrun_way : (lib : Library) (first : Booted) (f : ℕ × ℕ) (findings : List (ℕ × ℕ)) → Way lib first (f ∷ findings)
unfolding make_after_audit
unrun_way lib first f findings = record {
  events = outputs (head_pieces (segment_count lib) (f ∷ findings)) ++ [];
  result = Err status.AuditNo;
  goes = goes_puts (head_pieces (segment_count lib) (f ∷ findings))
      (ends {may = quiet} (audit_status false) (audit_may_end false)) []
      (Err status.AuditNo) (goes_ends quiet (audit_status false) (audit_may_end false));
  is_end = tt;
}

failed_way :
    (findings : List (ℕ × ℕ)) (lib : Library) (system : SuperFields)
    → AreFindings system.core booted_dbr findings → ¬ IsAudited system.core booted_dbr
    → Way lib (booted_of system) findings
failed_way [] lib system found fails = absurd (fails (findings_law.sound system.core booted_dbr found))
failed_way (f ∷ findings) lib system found fails = unrun_way lib (booted_of system) f findings

failed_some :
    (sets : List Set) (given : FolderFields) (system : SuperFields)
    → BootsTo sets given system → ¬ IsAudited system.core booted_dbr → HasEnd (write_and_boot sets)
failed_some sets given system to fails =
    way_end sets given system to (λ findings found. failed_way findings given.lib system found fails)

early_end : (s : Status) → MayEnd s → IsEnd (result_of_status s)
early_end status.Usage own = absurd own
early_end status.ReadFault own = absurd own
early_end status.WriteFault own = absurd own
early_end status.NoMemory own = absurd own
early_end _ own = tt

lines_go :
    (r : RunSummary) → Goes (put_summary r) (outputs (end_pieces (Some r.how) r.steps r.regs) ++ [])
    (result_of_status (finish_status (Some r.how)))
unfolding put_summary
lines_go r =
    goes_puts (end_pieces (Some r.how) r.steps r.regs)
    (ends {may = quiet} (finish_status (Some r.how)) (finish_may_end r.how)) []
    (result_of_status (finish_status (Some r.how))) (goes_ends quiet (finish_status (Some r.how)) (finish_may_end r.how))

run_way : (lib : Library) (first : Booted) → Gone (run_from lib 0 run_limit first) → Way lib first []
unfolding make_after_audit run_and_summarise
run_way lib first gone =
    let r = gone.0 in
    let lines = outputs (end_pieces (Some r.how) r.steps r.regs) ++ [] in
    let result = result_of_status (finish_status (Some r.how)) in
    record {
      events = outputs (head_pieces (segment_count lib) []) ++ lines;
      result = result;
      goes = goes_puts (head_pieces (segment_count lib) []) (run_and_summarise lib run_limit first) lines result
          (goes_then (run_from lib 0 run_limit first) put_summary [] lines r result gone.1 (lines_go r));
      is_end = early_end (finish_status (Some r.how)) (finish_may_end r.how);
    }

ran_way :
    (findings : List (ℕ × ℕ)) (lib : Library) (first : Booted) → Gone (run_from lib 0 run_limit first)
    → Way lib first findings
ran_way [] lib first gone = run_way lib first gone
ran_way (f ∷ findings) lib first gone = unrun_way lib first f findings

run_some :
    (sets : List Set) (given : FolderFields) (system : SuperFields) (turns : List Turn) (last : Booted) (how : Finish)
    → BootsTo sets given system → runs.Goes given.lib run_limit (booted_of system) turns last
    → Finishes how given.lib run_limit turns last → HasEnd (write_and_boot sets)
run_some sets given system turns last how to goes finishes =
    let gone =
    run_ends how given.lib run_limit (booted_of system) turns last
    (start_next given.lib system to.booted) goes.turns_are goes.events finishes in
    way_end sets given system to (λ findings found. ran_way findings given.lib (booted_of system) gone)

-- ---- the seed

unmade_rule :
    (refusal : Refusal) (events : List Event) (result : Result (Unit {0}) Status)
    → IsEnd result → Goes {may = may_write_files} (then_with (rule_program {A = List Set} (Err refusal)) write_and_boot) events
    result
    → (events ≡ []) × (result ≡ Err (status_of refusal))
unfolding Goes then_with rule_program
unmade_rule (BadFile bad) events result ended (inl goes) = (goes.none, goes.result_is)
unmade_rule (BadFile bad) events result ended (inr ends) = no_memory events result ended ends
unmade_rule NoMemory events result ended (inl goes) = absurd goes.value
unmade_rule NoMemory events result ended (inr ends) = no_memory events result ended ends

unmade_by :
    (seed : ℕ) (refusal : Refusal) (events : List Event) (result : Result (Unit {0}) Status)
    → files_of_seed seed ≡ Err refusal → GoesToEnd (make_program seed) events result
    → (events ≡ []) × (result ≡ Err (status_of refusal))
unfolding make_program
unmade_by seed refusal events result is goes =
    unmade_rule refusal events result goes.is_end
    (subst (λ (rule : RuleResult (List Set)). Goes {may = may_write_files} (then_with (rule_program rule) write_and_boot) events result)
    is goes.goes)

made_end :
    (sets : List Set) (events : List Event) (result : Result (Unit {0}) Status)
    → IsEnd result → Goes (write_and_boot sets) events result ⊎ Ends (Err status.NoMemory) events result
    → GoesToEnd (write_and_boot sets) events result
made_end sets events result ended (inl goes) = record { goes = goes; is_end = ended }
made_end sets events result ended (inr ends) = no_memory events result ended ends

pub made_by :
    (seed : ℕ) (sets : List Set) (events : List Event) (result : Result (Unit {0}) Status)
    → files_of_seed seed ≡ Ok sets → GoesToEnd (make_program seed) events result
    → GoesToEnd (write_and_boot sets) events result
made_by seed sets events result is goes =
    made_end sets events result goes.is_end (made_goes seed sets events result is goes.goes)

made_some :
    (seed : ℕ) (sets : List Set) → files_of_seed seed ≡ Ok sets → HasEnd (write_and_boot sets) → HasEnd (make_program seed)
made_some seed sets is has none =
    has (λ events result goes ended. none events result (made_then seed sets events result is goes) ended)

pub made_law : MadeLaw
made_law = record {
  unmade = unmade_by;
  made = made_by;
  some_made = made_some;
  refused = refused_by;
  passed = passed_by;
  failed = failed_by;
  one_failed = failed_one;
  one_plain = plain_one;
  some_refused = refused_some;
  some_failed = failed_some;
  some_run = run_some;
}

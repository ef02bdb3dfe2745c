-- The laws of `audit`, `run` and `trace` of a folder.
use Rattle.std.proofs.Common.{◌≡◌, ◌⊎◌, ℕ, Bool, true, false, ◌||◌, List, [], ◌∷◌, ◌++◌, Option, Some, Result, Ok, Err}
use Rattle.std.proofs.Common.{refl, sym, ap, subst, ◌∙◌, inl, inr, append_assoc}
use Rattle.std.proofs.lemmas.List.{append-nil}
use Rattle.m36_outside.specs.Files.{Files}
use Rattle.m36_world.specs.Follow.{Follow, outputs}
use Rattle.m36_world.specs.Seen.{Seen}
use Rattle.m36_world.specs.declared.event.Event.{Event}
use Rattle.m36_world.proofs.Following.{follow_split}
use Rattle.m36_model.specs.Audit.{AreFindings, IsAudited}
use Rattle.m36_model.specs.BootedCore.{booted_dbr}
use Rattle.m36_model.specs.StoreLaw.{Each}
use Rattle.m36_model.specs.declared.endings.End.TheVariants as endings
use Rattle.m36_model.specs.declared.outcome.Stop.TheVariants.{Dis}
use Rattle.m36_isol.proofs.Findings.{findings_law}
use Rattle.m36_step.specs.declared.turns.Turn.{Turn}
use Rattle.m36_super.specs.BootedRun.{Booted}
use Rattle.m36_super.specs.SuperFields.{SuperFields, booted_of}
use Rattle.m36_super.specs.TurnLaws.{IsPlainTurn}
use Rattle.m36_super.specs.BootResult.{IsBooted}
use Rattle.m36_super.specs.declared.next_event.NextEvent.TheVariants.{Step}
use Rattle.m36_super.proofs.BootTurns.{start_next}
use Rattle.m36_status.specs.declared.status.Status.{Status}
use Rattle.m36_status.specs.declared.status.Status.TheVariants.{NoMemory}
use Rattle.m36_program.specs.Alike.{Alike, IsEnd, OneText}
use Rattle.m36_program.specs.Early.{result_of_status, ends}
use Rattle.m36_program.specs.Ended.{HasEnd}
use Rattle.m36_program.specs.Goes.{Ends, Goes}
use Rattle.m36_program.specs.Performs.{Performs}
use Rattle.m36_program.specs.Program.{quiet, Program, some}
use Rattle.m36_program.specs.Reader.{reader_result}
use Rattle.m36_program.specs.Split.{BothGo, FirstEnds}
use Rattle.m36_program.specs.MayHappen.{pieces_of}
use Rattle.m36_program.proofs.AlikeLaws.{alike_wants, alike_then, alike_one, has_one_text}
use Rattle.m36_program.proofs.PieceLaws.{PutsBy}
use Rattle.m36_program.proofs.PutLaws.{goes_puts}
use Rattle.m36_program.proofs.ReaderLaws.{pieces_both, same_value, ok_err, reader_pieces, reader_outcome, reader_split}
use Rattle.cmd_image.specs.AuditText.{audit_pieces}
use Rattle.cmd_image.specs.ImageAudit.{passes, is_run_allowed, audit_status}
use Rattle.cmd_image.proofs.SomeFindings.{some_findings}
use Rattle.cmd_folder.specs.declared.command.FolderCommand.{FolderCommand}
use Rattle.cmd_folder.specs.declared.command.FolderCommand.TheVariants.{Audit, Run, Trace}
use Rattle.cmd_folder.specs.declared.command.FolderRun.{FolderRun}
use Rattle.cmd_folder.specs.declared.command.RunOutput.{RunOutput}
use Rattle.cmd_folder.specs.declared.command.RunOutput.TheVariants as output
use Rattle.cmd_folder.specs.declared.finish.Finish.{Finish}
use Rattle.cmd_folder.specs.declared.finish.Finish.TheVariants.{Over}
use Rattle.cmd_folder.specs.Folder.{FolderFields}
use Rattle.cmd_folder.specs.RunText.{pieces_of_turns, run_pieces, finish_status}
use Rattle.cmd_folder.specs.Runs.{Finishes}
use Rattle.cmd_folder.specs.Runs as runs
use Rattle.cmd_folder.proofs.OneSystem.{one_system}
use Rattle.cmd_folder.proofs.OneRunLaws.{one_run_here}
use Rattle.cmd_image.specs.ImageEnds.{EndsWith}
use Rattle.cmd_image.proofs.ImageGoes.{audit_puts, audit_end}
use Rattle.cmd_image.proofs.PutEnds.{whole_ends, pieces_begin, both_end, SomeEnd, early_ends}
use Rattle.cmd_image.proofs.TextLaws.{audit_alike}
use Rattle.cmd_folder.specs.FolderLaw.{run_command, is_unaudited, IsPrefix, OneIsPrefix, ArePlainTurns, plain_pieces, whole_pieces}
use Rattle.cmd_folder.specs.FolderLaw.{whole_status, HasTextOf, FolderLaw}
use Rattle.cmd_folder.specs.FolderProgram.{folder_given, folder_program}
use Rattle.cmd_folder.specs.Needs.{OneEndsWithDis}
use Rattle.cmd_folder.specs.OnFolder.{AreFolderFindings, audit_and_run, audit_and_run_if, command_after_audit, run_of_folder, on_system}
use Rattle.cmd_folder.specs.OnFolder.{on_folder}
use Rattle.cmd_folder.specs.RunProgram.{RunContext, finish_may_end, run_from}
use Rattle.cmd_folder.proofs.FolderEnds.{unput_ends, starved_ends}
use Rattle.cmd_folder.proofs.FolderFound.{Found, folder_found, GoesBy, known_goes, goes_known, passed_goes, failed_goes}
use Rattle.cmd_folder.proofs.FolderReader.{folder_reader, folder_alike}
use Rattle.cmd_folder.proofs.PlainRuns.{run_agrees, run_text}
use Rattle.cmd_folder.proofs.PutsSplit.{pieces_all, PutsSplit, puts_split}
use Rattle.cmd_folder.proofs.RunCalls.{run_calls}
use Rattle.cmd_folder.proofs.RunGoes.{run_is}

-- ---- `audit` has one text

system_alike :
    (given : FolderFields) (system : SuperFields) → Alike (on_system Audit given system) (on_system Audit given system)
unfolding Alike on_system
system_alike given system =
    let chosen : Program quiet (Unit {0}) = some (AreFolderFindings given.lib system)
    (command_after_audit Audit given (booted_of system)) in
    alike_wants chosen chosen
    (alike_one (AreFolderFindings given.lib system) (command_after_audit Audit given (booted_of system))
    (λ f g is is'. findings_law.unique system.core booted_dbr f g is.found is'.found) (λ f is. audit_alike f))

booted_alike : (given : FolderFields) → Alike (on_folder Audit given) (on_folder Audit given)
unfolding on_folder
booted_alike given =
    alike_one (IsBooted given.lib) (on_system Audit given) (λ s t is is'. one_system given.lib s t is is')
    (λ s is. system_alike given s)

audit_program_alike : (user : Option (List ℕ)) → Alike (folder_program Audit user) (folder_program Audit user)
unfolding folder_program
audit_program_alike user =
    alike_then (folder_given user) (folder_given user) (on_folder Audit) (on_folder Audit)
    (folder_alike quiet user) booted_alike

-- What `audit` puts on a booted folder, and its status, by the findings.
record IsAuditBy (given : FolderFields) (events : List Event) (result : Result (Unit {0}) Status) : Type 0 where
  pub system : SuperFields
  pub booted : IsBooted given.lib system
  pub findings : List (ℕ × ℕ)
  pub found : AreFindings system.core booted_dbr findings
  pub ends : EndsWith (audit_pieces findings) (audit_status (passes findings)) events result

audit_by :
    (given : FolderFields) (events : List Event) (result : Result (Unit {0}) Status)
    → Found Audit given events result ⊎ Ends (Err NoMemory) events result → IsEnd result → IsAuditBy given events result
audit_by given events result (inl found) end = record {
  system = found.system;
  booted = found.booted;
  findings = found.findings;
  found = found.are.found;
  ends = whole_ends (audit_pieces found.findings) (audit_status (passes found.findings)) events result end
      (audit_puts found.findings events result found.goes);
}
audit_by given events result (inr none) end = starved_ends result none.result_is end

one_audit :
    (given : FolderFields) (events others : List Event) (result other : Result (Unit {0}) Status)
    → Goes (on_folder Audit given) events result → IsEnd result → Goes (on_folder Audit given) others other
    → IsEnd other
    → (events ≡ others) × (result ≡ other)
one_audit given events others result other goes end goes' end' =
    let one = audit_by given events result (folder_found Audit given events result goes) end in
    let two = audit_by given others other (folder_found Audit given others other goes') end' in
    let system : one.system ≡ two.system = one_system given.lib one.system two.system one.booted two.booted in
    let same : one.findings ≡ two.findings =
    findings_law.unique two.system.core booted_dbr one.findings two.findings
    (subst (λ (s : SuperFields). AreFindings s.core booted_dbr one.findings) system one.found) two.found in
    both_end (audit_pieces two.findings) (audit_status (passes two.findings)) events others result other
    (subst (λ f. EndsWith (audit_pieces f) (audit_status (passes f)) events result) same one.ends) two.ends

-- ---- some call ends

-- There is a list of findings, so it is enough to have an end for each.
ends_by :
    (command : FolderCommand) (given : FolderFields) (system : SuperFields) → IsBooted given.lib system
    → ((findings : List (ℕ × ℕ)) → AreFindings system.core booted_dbr findings
    → SomeEnd (command_after_audit command given (booted_of system) findings))
    → HasEnd (on_folder command given)
ends_by command given system booted each none =
    some_findings system.core booted_dbr (λ findings found.
    let end : SomeEnd (command_after_audit command given (booted_of system) findings) = each findings found in
    none end.events end.result
    (goes_known command given system findings end.events end.result booted found end.goes) end.is_end)

-- If some condition fails, something is found.
fails_with :
    (system : SuperFields) (findings : List (ℕ × ℕ))
    → AreFindings system.core booted_dbr findings → ¬ IsAudited system.core booted_dbr → passes findings ≡ false
fails_with system [] found fails = absurd (fails (findings_law.sound system.core booted_dbr found))
fails_with system (f ∷ findings) found fails = refl

unrun_end :
    (is : Bool) (run : RunContext) (steps : ℕ) (first : Booted) (findings : List (ℕ × ℕ)) → is ≡ false
    → SomeEnd (audit_and_run_if is run steps first findings)
unrun_end true run steps first findings is = absurd (cc)
unrun_end false run steps first findings is = audit_end findings

failed_end :
    (command : FolderCommand) (given : FolderFields) (system : SuperFields) (findings : List (ℕ × ℕ))
    → passes findings ≡ false → is_unaudited command ≡ false → SomeEnd
    (command_after_audit command given (booted_of system) findings)
failed_end Audit given system findings fails is = audit_end findings
failed_end (Run run) given system findings fails is =
    unrun_end (passes findings || run.unaudited) (run_of_folder given output.Console) run.steps (booted_of system) findings
    (ap (λ (b : Bool). b || run.unaudited) fails ∙ is)
failed_end (Trace run) given system findings fails is =
    unrun_end (passes findings || run.unaudited) (run_of_folder given output.Trace) run.steps (booted_of system) findings
    (ap (λ (b : Bool). b || run.unaudited) fails ∙ is)

-- a run that finishes
ran_end :
    (is : Bool) (run : RunContext) (steps : ℕ) (first : Booted) (findings : List (ℕ × ℕ)) (turns : List Turn)
    (last : Booted) (how : Finish)
    → first.next_event ≡ Step → runs.Goes run.lib steps first turns last → Finishes how run.lib steps turns last
    → SomeEnd (audit_and_run_if is run steps first findings)
unfolding audit_and_run
ran_end false run steps first findings turns last how next goes finishes = audit_end findings
ran_end true run steps first findings turns last how next goes finishes = record {
  events = outputs (audit_pieces findings) ++ outputs (run_pieces run.denied run.output turns (Some how));
  result = result_of_status (finish_status (Some how));
  goes = goes_puts (audit_pieces findings) (run_from run 0 steps first)
      (outputs (run_pieces run.denied run.output turns (Some how)))
      (result_of_status (finish_status (Some how))) (run_calls run steps first turns last how next goes finishes);
  is_end = early_ends (finish_status (Some how)) (finish_may_end how);
}

command_end :
    (to : RunOutput) (run : FolderRun) (given : FolderFields) (system : SuperFields) (findings : List (ℕ × ℕ))
    (turns : List Turn)
    (last : Booted) (how : Finish)
    → (booted_of system).next_event ≡ Step → runs.Goes given.lib run.steps (booted_of system) turns last
    → Finishes how given.lib run.steps turns last
    → SomeEnd (command_after_audit (run_command to run) given (booted_of system) findings)
command_end output.Console run given system findings turns last how next goes finishes =
    ran_end (is_run_allowed findings run.unaudited) (run_of_folder given output.Console) run.steps
    (booted_of system) findings turns last how next goes finishes
command_end output.Trace run given system findings turns last how next goes finishes =
    ran_end (is_run_allowed findings run.unaudited) (run_of_folder given output.Trace) run.steps
    (booted_of system) findings turns last how next goes finishes

-- ---- the one text of plain turns

longer : (before one other : List (List ℕ)) → OneIsPrefix one other → OneIsPrefix (before ++ one) (before ++ other)
longer before one other (inl first) =
    inl (record { left = first.left; is = ap (λ l. before ++ l) first.is ∙ sym (append_assoc before one first.left) })
longer before one other (inr first) =
    inr (record { left = first.left; is = ap (λ l. before ++ l) first.is ∙ sym (append_assoc before other first.left) })

-- What was put is a prefix of the pieces of the audit.
within : (put pieces more left : List (List ℕ)) → pieces ≡ put ++ left → IsPrefix put (pieces ++ more)
within put pieces more left is =
    record { left = left ++ more; is = ap (λ l. l ++ more) is ∙ append_assoc put left more }

split_agrees :
    (run : RunContext) (steps : ℕ) (system : SuperFields) (findings : List (ℕ × ℕ)) (turns : List Turn) (last : Booted)
    (events : List Event)
    (result : Result (Unit {0}) Status)
    → IsBooted run.lib system → runs.Goes run.lib steps (booted_of system) turns last → Each IsPlainTurn turns
    → PutsSplit (audit_pieces findings) (run_from run 0 steps (booted_of system)) events result
    → OneIsPrefix (pieces_of events) (plain_pieces run.output findings turns)
split_agrees run steps system findings turns last events result booted goes plain (inl on) =
    let ran = run_is run steps (booted_of system) on.more result (start_next run.lib system booted) on.goes in
    subst (λ l. OneIsPrefix l (plain_pieces run.output findings turns)) (sym on.is)
    (longer (audit_pieces findings) (pieces_of on.more) (pieces_of_turns run.output 0 turns)
    (run_agrees run steps system last turns on.more result booted ran goes plain))
split_agrees run steps system findings turns last events result booted goes plain (inr first) =
    inl (within (pieces_of events) (audit_pieces findings) (pieces_of_turns run.output 0 turns) first.left first.is)

run_by_agrees :
    (is : Bool) (run : RunContext) (steps : ℕ) (system : SuperFields) (findings : List (ℕ × ℕ)) (turns : List Turn)
    (last : Booted)
    (events : List Event) (result : Result (Unit {0}) Status)
    → IsBooted run.lib system → runs.Goes run.lib steps (booted_of system) turns last → Each IsPlainTurn turns
    → Goes (audit_and_run_if is run steps (booted_of system) findings) events result
    → OneIsPrefix (pieces_of events) (plain_pieces run.output findings turns)
unfolding audit_and_run
run_by_agrees true run steps system findings turns last events result booted goes plain call =
    split_agrees run steps system findings turns last events result booted goes plain
    (puts_split (audit_pieces findings) (run_from run 0 steps (booted_of system)) events result call)
run_by_agrees false run steps system findings turns last events result booted goes plain call =
    let put = pieces_begin (audit_pieces findings) (audit_status (passes findings)) events result
    (audit_puts findings events result call) in
    inl (within (pieces_of events) (audit_pieces findings) (pieces_of_turns run.output 0 turns) put.0 put.1)

-- what a command that runs a folder does
run_goes :
    (to : RunOutput) (run : FolderRun) (given : FolderFields) (first : Booted) (findings : List (ℕ × ℕ))
    (events : List Event)
    (result : Result (Unit {0}) Status)
    → Goes (command_after_audit (run_command to run) given first findings) events result
    → Goes (audit_and_run_if (is_run_allowed findings run.unaudited) (run_of_folder given to) run.steps first findings) events result
run_goes output.Console run given first findings events result goes = goes
run_goes output.Trace run given first findings events result goes = goes

plain_by :
    (run : FolderRun) (to : RunOutput) (given : FolderFields) (findings : List (ℕ × ℕ)) (turns : List Turn)
    (last : Booted)
    (events : List Event) (result : Result (Unit {0}) Status)
    → (plain : ArePlainTurns run given findings turns last)
    → GoesBy (run_command to run) given plain.system findings events result
    → OneIsPrefix (pieces_of events) (plain_pieces to findings turns)
plain_by run to given findings turns last events result plain (inl goes) =
    run_by_agrees (is_run_allowed findings run.unaudited)
    (run_of_folder given to) run.steps plain.system findings turns last events result plain.booted
    plain.goes plain.plain (run_goes to run given (booted_of plain.system) findings events result goes)
plain_by run to given findings turns last events result plain (inr none) =
    inl (record {
      left = plain_pieces to findings turns;
      is = ap (λ e. pieces_of e ++ plain_pieces to findings turns)
          (sym none.none);
    })

plain_agrees :
    (run : FolderRun) (to : RunOutput) (given : FolderFields) (findings : List (ℕ × ℕ)) (turns : List Turn)
    (last : Booted)
    (events : List Event) (result : Result (Unit {0}) Status)
    → ArePlainTurns run given findings turns last → Goes (on_folder (run_command to run) given) events result
    → OneIsPrefix (pieces_of events) (plain_pieces to findings turns)
plain_agrees run to given findings turns last events result plain goes =
    plain_by run to given findings turns last events result plain
    (known_goes (run_command to run) given plain.system findings events result plain.booted plain.found goes)

-- ---- a whole run

-- a call that did not end
text_short :
    (put all : List (List ℕ)) (result end : Result (Unit {0}) Status) → IsPrefix put all → (IsEnd result → ⊥)
    → OneText put all result end
text_short put all result end first unended =
    record { left = first.left; is = first.is; ended = λ ended. absurd (unended ended) }

text_after :
    (before put all : List (List ℕ)) (result end : Result (Unit {0}) Status) → OneText put all result end
    → OneText (before ++ put) (before ++ all) result end
text_after before put all result end one = record {
  left = one.left;
  is = ap (λ l. before ++ l) one.is ∙ sym (append_assoc before put one.left);
  ended = one.ended;
}

split_text :
    (run : RunContext) (steps : ℕ) (system : SuperFields) (findings : List (ℕ × ℕ)) (turns : List Turn) (last : Booted)
    (how : Finish)
    (events : List Event) (result : Result (Unit {0}) Status)
    → IsBooted run.lib system → runs.Goes run.lib steps (booted_of system) turns last
    → Finishes how run.lib steps turns last
    → Each IsPlainTurn turns → PutsSplit (audit_pieces findings) (run_from run 0 steps (booted_of system)) events result
    → OneText (pieces_of events) (audit_pieces findings ++ run_pieces run.denied run.output turns (Some how)) result
    (result_of_status (finish_status (Some how)))
split_text run steps system findings turns last how events result booted goes finishes plain (inl on) =
    let ran = run_is run steps (booted_of system) on.more result (start_next run.lib system booted) on.goes in
    let all = run_pieces run.denied run.output turns (Some how) in
    subst (λ l. OneText l (audit_pieces findings ++ all) result (result_of_status (finish_status (Some how)))) (sym on.is)
    (text_after (audit_pieces findings) (pieces_of on.more) all result (result_of_status (finish_status (Some how)))
    (run_text run steps system last turns how on.more result booted ran goes finishes plain))
split_text run steps system findings turns last how events result booted goes finishes plain (inr first) =
    let all = run_pieces run.denied run.output turns (Some how) in
    text_short (pieces_of events) (audit_pieces findings ++ all) result (result_of_status (finish_status (Some how)))
    (within (pieces_of events) (audit_pieces findings) all first.left first.is)
    (λ end. unput_ends result first.result_is end)

audit_text_of :
    (pieces : List (List ℕ)) (s : Status) (events : List Event) (result : Result (Unit {0}) Status)
    → PutsBy pieces s events result → OneText (pieces_of events) pieces result (result_of_status s)
audit_text_of pieces s events result (inl whole) = record {
  left = [];
  is = sym (append-nil (pieces_of events) ∙ pieces_all pieces events whole.events_are);
  ended = λ end. (refl, whole.result_is);
}
audit_text_of pieces s events result (inr part) =
    text_short (pieces_of events) pieces result (result_of_status s) (record { left = part.left; is = part.is })
    (λ end. unput_ends result part.result_is end)

run_by_text :
    (is : Bool) (run : RunContext) (steps : ℕ) (system : SuperFields) (findings : List (ℕ × ℕ)) (turns : List Turn)
    (last : Booted) (how : Finish)
    (events : List Event) (result : Result (Unit {0}) Status)
    → IsBooted run.lib system → runs.Goes run.lib steps (booted_of system) turns last
    → Finishes how run.lib steps turns last
    → Each IsPlainTurn turns → Goes (audit_and_run_if is run steps (booted_of system) findings) events result
    → OneText (pieces_of events) (whole_pieces is run.output run.denied findings turns how) result
    (result_of_status (whole_status is findings how))
unfolding audit_and_run
run_by_text true run steps system findings turns last how events result booted goes finishes plain call =
    split_text run steps system findings turns last how events result booted goes finishes plain
    (puts_split (audit_pieces findings) (run_from run 0 steps (booted_of system)) events result call)
run_by_text false run steps system findings turns last how events result booted goes finishes plain call =
    audit_text_of (audit_pieces findings) (audit_status (passes findings)) events result
    (audit_puts findings events result call)

text_by :
    (run : FolderRun) (to : RunOutput) (given : FolderFields) (findings : List (ℕ × ℕ)) (turns : List Turn)
    (last : Booted) (how : Finish)
    (events : List Event) (result : Result (Unit {0}) Status)
    → (plain : ArePlainTurns run given findings turns last) → Finishes how given.lib run.steps turns last
    → GoesBy (run_command to run) given plain.system findings events result
    → HasTextOf run to given findings turns how events result
text_by run to given findings turns last how events result plain finishes (inl goes) =
    run_by_text (is_run_allowed findings run.unaudited)
    (run_of_folder given to) run.steps plain.system findings turns last how events result plain.booted
    plain.goes finishes plain.plain (run_goes to run given (booted_of plain.system) findings events result goes)
text_by run to given findings turns last how events result plain finishes (inr none) =
    let is = is_run_allowed findings run.unaudited in
    let all = whole_pieces is to given.denied findings turns how in
    text_short (pieces_of events) all result (result_of_status (whole_status is findings how))
    (record { left = all; is = ap (λ e. pieces_of e ++ all) (sym none.none) })
    (λ end. starved_ends result none.result_is end)

plain_text :
    (run : FolderRun) (to : RunOutput) (given : FolderFields) (findings : List (ℕ × ℕ)) (turns : List Turn)
    (last : Booted) (how : Finish)
    (events : List Event) (result : Result (Unit {0}) Status)
    → ArePlainTurns run given findings turns last → Finishes how given.lib run.steps turns last
    → Goes (on_folder (run_command to run) given) events result
    → HasTextOf run to given findings turns how events result
plain_text run to given findings turns last how events result plain finishes goes =
    text_by run to given findings turns last how events result plain finishes
    (known_goes (run_command to run) given plain.system findings events result plain.booted plain.found goes)

-- ---- whole calls

-- The call of a command, over files from which the reader gives the folder: it does on the folder what it puts; or it
-- puts nothing and does not end.
record OnGiven (command : FolderCommand) (given : FolderFields) (pieces : List (List ℕ))
    (result : Result (Unit {0}) Status) : Type 0 where
  pub more : List Event
  pub goes : Goes (on_folder command given) more result
  pub are : pieces ≡ pieces_of more

record Unread (pieces : List (List ℕ)) (result : Result (Unit {0}) Status) : Type 0 where
  pub none : pieces ≡ []
  pub unended : IsEnd result → ⊥

folder_of :
    (command : FolderCommand) (user : Option (List ℕ)) (files : Files) (given : FolderFields)
    (result : Result (Unit {0}) Status) (old new : Seen)
    → old.files ≡ Some files → reader_result files (folder_given {may = quiet} user) ≡ Some (Ok given)
    → (events : List Event) → Follow events old new
    → BothGo (folder_given user) (on_folder command) events result
    ⊎ FirstEnds (folder_given {may = quiet} user) events result
    → OnGiven command given (pieces_of events) result ⊎ Unread (pieces_of events) result
folder_of command user files given result old new told gives events follow (inl both) =
    let parts = follow_split both.first both.more old new (subst (λ e. Follow e old new) both.is follow) in
    let same : both.value ≡ given =
    same_value both.value given
    (sym (reader_outcome (folder_given user) files (Ok both.value) old parts.between (folder_reader quiet user) told tt
    (record { events = both.first; follow = parts.begins; goes = both.begins })) ∙ gives) in
    inl (record {
      more = both.more;
      goes = subst (λ v. Goes (on_folder command v) both.more result) same both.goes_on;
      are = ap pieces_of both.is ∙ pieces_both both.first both.more
          ∙ ap (λ l. l ++ pieces_of both.more)
          (reader_pieces (folder_given user) both.first (Ok both.value) (folder_reader quiet user) both.begins);
    })
folder_of command user files given result old new told gives events follow (inr first) =
    inr (record {
      none = reader_pieces (folder_given user) events (Err first.status) (folder_reader quiet user) first.goes;
      unended = λ end.
          ok_err given first.status
          (sym gives
          ∙ reader_outcome (folder_given user) files (Err first.status) old new (folder_reader quiet user) told
          (let ended : IsEnd {A = Unit {0}} (Err first.status) = subst
          (IsEnd {A = Unit {0}}) first.result_is end in ended)
          (record { events = events; follow = follow; goes = first.goes }));
    })

call_given :
    (command : FolderCommand) (user : Option (List ℕ)) (files : Files) (given : FolderFields)
    (result : Result (Unit {0}) Status) (old new : Seen)
    → old.files ≡ Some files → reader_result files (folder_given {may = quiet} user) ≡ Some (Ok given)
    → (performs : Performs (folder_program command user) result old new)
    → OnGiven command given (pieces_of performs.events) result ⊎ Unread (pieces_of performs.events) result
unfolding folder_program
call_given command user files given result old new told gives performs =
    folder_of command user files given result old new told gives performs.events performs.follow
    (reader_split (folder_given user) (on_folder command) performs.events result (folder_reader quiet user)
    performs.goes)

agrees_in :
    (run : FolderRun) (to : RunOutput) (given : FolderFields) (findings : List (ℕ × ℕ)) (turns : List Turn)
    (last : Booted)
    (pieces : List (List ℕ)) (result : Result (Unit {0}) Status)
    → ArePlainTurns run given findings turns last → OnGiven (run_command to run) given pieces result ⊎ Unread pieces result
    → OneIsPrefix pieces (plain_pieces to findings turns)
agrees_in run to given findings turns last pieces result plain (inl on) =
    subst (λ l. OneIsPrefix l (plain_pieces to findings turns)) (sym on.are)
    (plain_agrees run to given findings turns last on.more result plain on.goes)
agrees_in run to given findings turns last pieces result plain (inr unread) =
    inl (record {
      left = plain_pieces to findings turns;
      is = ap (λ l. l ++ plain_pieces to findings turns)
          (sym unread.none);
    })

abbrev TextIn :
    FolderRun → RunOutput → FolderFields → List (ℕ × ℕ) → List Turn → Finish → List (List ℕ) → Result (Unit {0}) Status
    → Type 0
TextIn run to given findings turns how pieces result =
    OneText pieces (whole_pieces (is_run_allowed findings run.unaudited) to given.denied findings turns how) result
    (result_of_status (whole_status (is_run_allowed findings run.unaudited) findings how))

text_in :
    (run : FolderRun) (to : RunOutput) (given : FolderFields) (findings : List (ℕ × ℕ)) (turns : List Turn)
    (last : Booted) (how : Finish)
    (pieces : List (List ℕ)) (result : Result (Unit {0}) Status)
    → ArePlainTurns run given findings turns last → Finishes how given.lib run.steps turns last
    → OnGiven (run_command to run) given pieces result ⊎ Unread pieces result
    → TextIn run to given findings turns how pieces result
text_in run to given findings turns last how pieces result plain finishes (inl on) =
    subst (λ l. TextIn run to given findings turns how l result) (sym on.are)
    (plain_text run to given findings turns last how on.more result plain finishes on.goes)
text_in run to given findings turns last how pieces result plain finishes (inr unread) =
    let is = is_run_allowed findings run.unaudited in
    let all = whole_pieces is to given.denied findings turns how in
    text_short pieces all result (result_of_status (whole_status is findings how))
    (record { left = all; is = ap (λ l. l ++ all) (sym unread.none) }) unread.unended

-- ---- DIS

one_ends_with_dis : OneEndsWithDis
one_ends_with_dis lib limit system turns last booted goes ends plain same end how goes' ends' =
    sym (one_run_here lib limit system turns same last end
    (Over (endings.Stop Dis)) how booted goes goes' ends ends' plain).end_is

-- ---- the law

pub folder_law : FolderLaw
folder_law = record {
  audit = λ user. has_one_text (folder_program Audit user) refl (audit_program_alike user);
  one_audit = one_audit;
  some_audit = λ given system booted. ends_by Audit given system booted (λ findings found. audit_end findings);
  some_failed = λ command given system booted fails is.
      ends_by command given system booted
      (λ findings found. failed_end command given system findings (fails_with system findings found fails) is);
  some_run = λ run to given system turns last how booted goes finishes.
      ends_by (run_command to run) given system booted
      (λ findings found. command_end to run given system findings turns last how
      (start_next given.lib system booted) goes finishes);
  passed = passed_goes;
  failed = failed_goes;
  run = run_is;
  some_call = run_calls;
  plain = plain_agrees;
  plain_run = plain_text;
  plain_call = λ run to user files given findings turns last result old new told gives plain performs.
      agrees_in run to given findings turns last (pieces_of performs.events) result plain
      (call_given (run_command to run) user files given result old new told gives performs);
  plain_run_call = λ run to user files given findings turns last how result old new told gives plain finishes performs.
      text_in run to given findings turns last how (pieces_of performs.events) result plain finishes
      (call_given (run_command to run) user files given result old new told gives performs);
  ends_with_dis = one_ends_with_dis;
}

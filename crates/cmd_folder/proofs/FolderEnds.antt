-- A call on a booted folder that ends has the result Done, if the needs of its command are met; and what it means that
-- its text begins with `audit yes`.
use Rattle.std.proofs.Common.{◌≡◌, ◌⊎◌, ℕ, Bool, true, false, List, [], ◌∷◌, Option, Some, None, Result, Ok, Err, refl}
use Rattle.std.proofs.Common.{sym, ap, subst, ◌∙◌, inl, inr}
use Rattle.std.proofs.lemmas.List.{append-nil}
use Rattle.std.proofs.lemmas.List.Folds.{concat-append as joined_on}
use Rattle.m36_outside.specs.Passing.{joined}
use Rattle.m36_model.specs.Audit.{AreFindings, IsAudited}
use Rattle.m36_model.specs.BootedCore.{booted_dbr}
use Rattle.m36_isol.proofs.Findings.{findings_law}
use Rattle.m36_world.specs.declared.event.Event.{Event}
use Rattle.m36_step.specs.declared.turns.Turn.{Turn}
use Rattle.m36_super.specs.Library.{Library}
use Rattle.m36_super.specs.declared.next_event.NextEvent.TheVariants.{Step}
use Rattle.m36_super.specs.BootedRun.{Booted}
use Rattle.m36_super.specs.SuperFields.{SuperFields, booted_of}
use Rattle.m36_super.proofs.BootTurns.{start_next}
use Rattle.m36_status.specs.declared.status.Status.{Status}
use Rattle.m36_status.specs.declared.status.Status.TheVariants.{WriteFault, NoMemory}
use Rattle.m36_program.specs.Alike.{IsEnd}
use Rattle.m36_program.specs.Early.{result_of_status}
use Rattle.m36_program.specs.Ended.{StartsWith}
use Rattle.m36_program.specs.Goes.{Ends, Goes}
use Rattle.m36_program.specs.Program.{quiet, Program}
use Rattle.m36_program.specs.MayHappen.{pieces_of}
use Rattle.m36_program.proofs.PieceLaws.{puts_ended}
use Rattle.cmd_image.specs.AuditText.{yes_line, audit_pieces, audit_text}
use Rattle.cmd_image.specs.ImageAudit.{passes, is_run_allowed, audit_status}
use Rattle.cmd_image.proofs.YesAnswers.{none_found}
use Rattle.cmd_folder.specs.declared.command.FolderCommand.{FolderCommand}
use Rattle.cmd_folder.specs.declared.command.FolderCommand.TheVariants.{Audit, Run, Trace}
use Rattle.cmd_folder.specs.declared.command.FolderRun.{FolderRun}
use Rattle.cmd_folder.specs.declared.command.RunOutput.{RunOutput}
use Rattle.cmd_folder.specs.declared.command.RunOutput.TheVariants as output
use Rattle.cmd_folder.specs.declared.finish.Finish.{Finish}
use Rattle.cmd_folder.specs.Folder.{FolderFields}
use Rattle.cmd_folder.specs.Promise.{PassesFolderAudit}
use Rattle.cmd_folder.specs.RunText.{finish_status}
use Rattle.cmd_folder.specs.Runs as runs
use Rattle.cmd_image.specs.ImageProgram.{audit_may_end, audit_only}
use Rattle.cmd_image.specs.Needs.{MayRun}
use Rattle.cmd_image.proofs.PutEnds.{whole_ends, none_ends, starts_longer, none_starts}
use Rattle.cmd_folder.specs.FolderLaw.{OneIsPrefix}
use Rattle.cmd_folder.specs.Needs.{EndsWithDis, RunNeeds, SystemNeeds, FolderNeeds}
use Rattle.cmd_folder.specs.OnFolder.{audit_and_run, audit_and_run_if, command_after_audit, run_of_folder, on_folder}
use Rattle.cmd_folder.specs.IsBootedRun.{FinishesAs, StopsAs}
use Rattle.cmd_folder.specs.RunProgram.{RunContext, run_from}
use Rattle.cmd_folder.proofs.FolderFound.{Found, folder_found}
use Rattle.cmd_folder.proofs.PutsSplit.{PutsSplit, puts_split}
use Rattle.cmd_folder.proofs.RunGoes.{run_is}

-- ---- no end

pub unput_ends : {P : Type 0} (result : Result (Unit {0}) Status) → result ≡ Err WriteFault → IsEnd result → P
unput_ends result is end =
    absurd (let no : IsEnd {A = Unit {0}} (Err WriteFault) = subst (IsEnd {A = Unit {0}}) is end in no)

pub starved_ends : {P : Type 0} (result : Result (Unit {0}) Status) → result ≡ Err NoMemory → IsEnd result → P
starved_ends result is end =
    absurd (let no : IsEnd {A = Unit {0}} (Err NoMemory) = subst (IsEnd {A = Unit {0}}) is end in no)

-- ---- Done

-- An audit that passes finds nothing, unless it does not matter.
none_by :
    (system : SuperFields) (findings : List (ℕ × ℕ)) (unaudited : Bool) → AreFindings system.core booted_dbr findings
    → MayRun (IsAudited system.core booted_dbr) unaudited → (findings ≡ []) ⊎ (unaudited ≡ true)
none_by system findings unaudited found (inl audited) =
    inl (findings_law.complete system.core booted_dbr findings audited found)
none_by system findings unaudited found (inr un) = inr un

runs_by :
    (findings : List (ℕ × ℕ)) (unaudited : Bool) → (findings ≡ []) ⊎ (unaudited ≡ true)
    → is_run_allowed findings unaudited ≡ true
runs_by [] unaudited may = refl
runs_by (f ∷ findings) unaudited (inl none) = absurd (cc)
runs_by (f ∷ findings) unaudited (inr un) = un

audit_done :
    (findings : List (ℕ × ℕ)) (events : List Event) (result : Result (Unit {0}) Status)
    → findings ≡ [] → Goes (audit_only findings) events result → IsEnd result → result ≡ Ok tt
unfolding audit_only
audit_done findings events result none goes end =
    let status = audit_status (passes findings) in
    (whole_ends (audit_pieces findings) status events result end
    (puts_ended quiet (audit_pieces findings) status (audit_may_end (passes findings)) events result goes)).result_is
    ∙ ap (λ f. result_of_status (audit_status (passes f))) none

ran_done :
    (how : Option Finish) (lib : Library) (limit : ℕ) (first : Booted) (turns : List Turn) (last : Booted)
    (unput : List (List ℕ))
    (result : Result (Unit {0}) Status)
    → EndsWithDis lib limit first → runs.Goes lib limit first turns last → FinishesAs how lib limit turns last
    → StopsAs how last unput result → IsEnd result → result ≡ Ok tt
ran_done how lib limit first turns last unput result needs goes finishes (inr is) end = unput_ends result is end
ran_done None lib limit first turns last unput result needs goes finishes (inl is) end = starved_ends result is.1.1 end
ran_done (Some how) lib limit first turns last unput result needs goes finishes (inl is) end =
    is.1 ∙ ap (λ h. result_of_status (finish_status (Some h))) (needs turns last how goes finishes)

split_done :
    (run : RunContext) (limit : ℕ) (first : Booted) (findings : List (ℕ × ℕ)) (events : List Event)
    (result : Result (Unit {0}) Status)
    → first.next_event ≡ Step → EndsWithDis run.lib limit first
    → PutsSplit (audit_pieces findings) (run_from run 0 limit first) events result → IsEnd result → result ≡ Ok tt
split_done run limit first findings events result next needs (inl on) end =
    let ran = run_is run limit first on.more result next on.goes in
    ran_done ran.how run.lib limit first ran.turns ran.last ran.unput result needs ran.goes ran.finishes ran.stops end
split_done run limit first findings events result next needs (inr put) end = unput_ends result put.result_is end

run_done :
    (run : FolderRun) (to : RunOutput) (given : FolderFields) (system : SuperFields) (findings : List (ℕ × ℕ))
    (events : List Event)
    (result : Result (Unit {0}) Status)
    → (booted_of system).next_event ≡ Step → AreFindings system.core booted_dbr findings → RunNeeds run given.lib system
    → Goes (audit_and_run_if (is_run_allowed findings run.unaudited) (run_of_folder given to) run.steps
    (booted_of system) findings) events result
    → IsEnd result → result ≡ Ok tt
unfolding audit_and_run
run_done run to given system findings events result next found needs goes end =
    let ran : Goes (audit_and_run_if true (run_of_folder given to) run.steps (booted_of system) findings) events result =
    subst (λ b. Goes (audit_and_run_if b (run_of_folder given to) run.steps (booted_of system) findings) events result)
    (runs_by findings run.unaudited (none_by system findings run.unaudited found needs.0)) goes in
    split_done (run_of_folder given to) run.steps (booted_of system) findings events result next needs.1
    (puts_split (audit_pieces findings) (run_from (run_of_folder given to) 0 run.steps (booted_of system)) events
    result ran) end

command_done :
    (command : FolderCommand) (given : FolderFields) (system : SuperFields) (findings : List (ℕ × ℕ))
    (events : List Event)
    (result : Result (Unit {0}) Status)
    → (booted_of system).next_event ≡ Step → AreFindings system.core booted_dbr findings
    → SystemNeeds command given.lib system
    → Goes (command_after_audit command given (booted_of system) findings) events result → IsEnd result → result ≡ Ok tt
command_done Audit given system findings events result next found needs goes end =
    audit_done findings events result (findings_law.complete system.core booted_dbr findings needs found) goes end
command_done (Run run) given system findings events result next found needs goes end =
    run_done run output.Console given system findings events result next found needs goes end
command_done (Trace run) given system findings events result next found needs goes end =
    run_done run output.Trace given system findings events result next found needs goes end

done_by :
    (command : FolderCommand) (given : FolderFields) (events : List Event) (result : Result (Unit {0}) Status)
    → Found command given events result ⊎ Ends (Err NoMemory) events result → IsEnd result → FolderNeeds command given
    → result ≡ Ok tt
done_by command given events result (inl found) end needs =
    command_done command given found.system found.findings events result
    (start_next given.lib found.system found.booted) found.are.found
    (needs found.system found.booted) found.goes end
done_by command given events result (inr none) end needs = none_ends events result end none

-- If the needs of a command are met, a call that ends has the result Done.
pub folder_done :
    (command : FolderCommand) (given : FolderFields) (events : List Event) (result : Result (Unit {0}) Status)
    → Goes (on_folder command given) events result → IsEnd result → FolderNeeds command given → result ≡ Ok tt
folder_done command given events result goes end needs =
    done_by command given events result (folder_found command given events result goes) end needs

-- ---- `audit yes`

-- What a call puts agrees with the pieces of the audit.
split_agrees :
    (pieces : List (List ℕ)) (rest : Program quiet (Unit {0})) (events : List Event) (result : Result (Unit {0}) Status)
    → PutsSplit pieces rest events result → OneIsPrefix pieces (pieces_of events)
split_agrees pieces rest events result (inl on) = inl (record { left = pieces_of on.more; is = on.is })
split_agrees pieces rest events result (inr first) = inr (record { left = first.left; is = first.is })

by_agrees :
    (is : Bool) (run : RunContext) (limit : ℕ) (first : Booted) (findings : List (ℕ × ℕ)) (events : List Event)
    (result : Result (Unit {0}) Status)
    → Goes (audit_and_run_if is run limit first findings) events result → OneIsPrefix (audit_pieces findings) (pieces_of events)
unfolding audit_only audit_and_run
by_agrees true run limit first findings events result goes =
    split_agrees (audit_pieces findings) (run_from run 0 limit first) events result
    (puts_split (audit_pieces findings) (run_from run 0 limit first) events result goes)
by_agrees false run limit first findings events result goes =
    split_agrees (audit_pieces findings) _ events result (puts_split (audit_pieces findings) _ events result goes)

audit_agrees :
    (findings : List (ℕ × ℕ)) (events : List Event) (result : Result (Unit {0}) Status)
    → Goes (audit_only findings) events result → OneIsPrefix (audit_pieces findings) (pieces_of events)
unfolding audit_only
audit_agrees findings events result goes =
    split_agrees (audit_pieces findings) _ events result (puts_split (audit_pieces findings) _ events result goes)

command_agrees :
    (command : FolderCommand) (given : FolderFields) (first : Booted) (findings : List (ℕ × ℕ)) (events : List Event)
    (result : Result (Unit {0}) Status)
    → Goes (command_after_audit command given first findings) events result → OneIsPrefix (audit_pieces findings) (pieces_of events)
command_agrees Audit given first findings events result goes = audit_agrees findings events result goes
command_agrees (Run run) given first findings events result goes =
    by_agrees (is_run_allowed findings run.unaudited) (run_of_folder given output.Console) run.steps first findings events result goes
command_agrees (Trace run) given first findings events result goes =
    by_agrees (is_run_allowed findings run.unaudited) (run_of_folder given output.Trace) run.steps first findings events result goes

yes_none :
    (findings : List (ℕ × ℕ)) (pieces : List (List ℕ)) → OneIsPrefix (audit_pieces findings) pieces
    → StartsWith yes_line pieces → findings ≡ []
yes_none findings pieces (inl on) starts =
    none_found findings (joined on.left) starts.rest
    (sym (joined_on (audit_pieces findings) on.left) ∙ sym (ap joined on.is) ∙ starts.is)
yes_none findings pieces (inr on) starts =
    let longer = starts_longer yes_line (audit_pieces findings) pieces on.left on.is starts in
    none_found findings [] longer.rest (append-nil (audit_text findings) ∙ longer.is)

yes_by :
    (command : FolderCommand) (given : FolderFields) (events : List Event) (result : Result (Unit {0}) Status)
    → Found command given events result ⊎ Ends (Err NoMemory) events result → StartsWith yes_line (pieces_of events)
    → PassesFolderAudit given.lib
yes_by command given events result (inl found) starts =
    found.are.passes (yes_none found.findings (pieces_of events)
    (command_agrees command given (booted_of found.system) found.findings events result found.goes) starts)
yes_by command given events result (inr none) starts = none_starts events none.none starts

-- If what a call puts begins with `audit yes`, the booted system passes its audit.
pub folder_yes :
    (command : FolderCommand) (given : FolderFields) (events : List Event) (result : Result (Unit {0}) Status)
    → Goes (on_folder command given) events result → StartsWith yes_line (pieces_of events) → PassesFolderAudit given.lib
folder_yes command given events result goes starts =
    yes_by command given events result (folder_found command given events result goes) starts

-- How a command on an image ends: by the findings of its audit, of which there is one list; with Done, if its needs are
-- met; and what it means that its text begins with `audit yes`.
use Rattle.std.proofs.Common.{◌≡◌, ◌⊎◌, ℕ, Bool, true, false, List, [], ◌∷◌, ◌++◌, Result, Ok, Err, sym, ap, subst, ◌∙◌}
use Rattle.std.proofs.Common.{inl, inr}
use Rattle.std.proofs.lemmas.List.{append-nil}
use Rattle.std.proofs.lemmas.List.Folds.{concat-append as joined_on}
use Rattle.m36_outside.specs.Passing.{joined}
use Rattle.m36_model.specs.Store.{State}
use Rattle.m36_model.specs.Audit.{AreFindings, IsAudited}
use Rattle.m36_model.specs.declared.outcome.Outcome.TheVariants.{Stopped}
use Rattle.m36_model.specs.declared.outcome.Stop.TheVariants.{Dis}
use Rattle.m36_isol.proofs.CoreIsolated.{core_isolated}
use Rattle.m36_isol.proofs.Findings.{findings_law}
use Rattle.m36_world.specs.declared.event.Event.{Event}
use Rattle.m36_status.specs.declared.status.Status.{Status}
use Rattle.m36_status.specs.declared.status.Status.TheVariants.{Done, NoMemory}
use Rattle.m36_program.specs.Alike.{IsEnd}
use Rattle.m36_program.specs.Early.{result_of_status}
use Rattle.m36_program.specs.Ended.{HasEnd, StartsWith}
use Rattle.m36_program.specs.Goes.{Ends, Chosen, Goes}
use Rattle.m36_program.specs.MayHappen.{pieces_of}
use Rattle.m36_program.proofs.PieceLaws.{PutsBy}
use Rattle.cmd_image.specs.AuditText.{yes_line, audit_pieces, audit_text}
use Rattle.cmd_image.specs.Output.{run_pieces, status_after}
use Rattle.cmd_image.specs.ImageAudit.{passes, is_run_allowed, audit_status, IsIsolated, PassesAudit}
use Rattle.cmd_image.specs.Run.{run, last_outcome}
use Rattle.cmd_image.specs.declared.command.BareRun.{BareRun}
use Rattle.cmd_image.specs.declared.command.ImageCommand.{ImageCommand}
use Rattle.cmd_image.specs.declared.command.ImageCommand.TheVariants.{Bare, Audit}
use Rattle.cmd_image.proofs.SomeFindings.{some_findings}
use Rattle.cmd_image.proofs.YesAnswers.{none_found}
use Rattle.cmd_image.specs.ImageProgram.{AreAuditFindings, command_after_audit, on_image}
use Rattle.cmd_image.specs.ImageEnds.{bare_pieces, image_pieces, bare_status, image_status, EndsByFindings}
use Rattle.cmd_image.specs.ImageEnds.{EndsBySomeFindings, ImageEndLaw}
use Rattle.cmd_image.specs.Needs.{MayRun, ImageNeeds}
use Rattle.cmd_image.proofs.ImageGoes.{found_puts, found_end}
use Rattle.cmd_image.proofs.PutEnds.{whole_ends, none_ends, pieces_begin, both_end, starts_longer, none_starts, SomeEnd}

-- ---- by the findings

-- The findings of the audit, and what was put by them.
record Found (command : ImageCommand) (state : State (List ℕ)) (events : List Event) (result : Result (Unit {0}) Status)
    : Type 0 where
  findings : List (ℕ × ℕ)
  are : AreAuditFindings state findings
  puts : PutsBy (image_pieces command state findings) (image_status command state findings) events result

on_goes :
    (command : ImageCommand) (state : State (List ℕ)) (events : List Event) (result : Result (Unit {0}) Status)
    → Goes (on_image command state) events result
    → Chosen (AreAuditFindings state) (λ f. Goes (command_after_audit command state f) events result)
    ⊎ Ends (Err NoMemory) events result
unfolding Goes on_image
on_goes command state events result goes = goes

image_found :
    (command : ImageCommand) (state : State (List ℕ)) (events : List Event) (result : Result (Unit {0}) Status)
    → Goes (on_image command state) events result
    → Found command state events result ⊎ Ends (Err NoMemory) events result
image_found command state events result goes =
    elim (on_goes command state events result goes) [
      | inl chosen ↦ inl (record {
        findings = chosen.value;
        are = chosen.is;
        puts = found_puts command state chosen.value events result chosen.rest;
      })
      | inr none ↦ inr none
    ]

-- The findings of the audit, and that the call ended by them.
record Ended (command : ImageCommand) (state : State (List ℕ)) (events : List Event) (result : Result (Unit {0}) Status)
    : Type 0 where
  findings : List (ℕ × ℕ)
  are : AreAuditFindings state findings
  ends : EndsByFindings command state findings events result

image_ended :
    (command : ImageCommand) (state : State (List ℕ)) (events : List Event) (result : Result (Unit {0}) Status)
    → Goes (on_image command state) events result → IsEnd result → Ended command state events result
image_ended command state events result goes end =
    elim (image_found command state events result goes) [
      | inl found ↦ record {
        findings = found.findings;
        are = found.are;
        ends = whole_ends (image_pieces command state found.findings) (image_status command state found.findings) events
            result end found.puts;
      }
      | inr none ↦ none_ends events result end none
    ]

-- ---- the law

one_list :
    (state : State (List ℕ)) (findings others : List (ℕ × ℕ)) → AreAuditFindings state findings
    → AreAuditFindings state others → findings ≡ others
one_list state findings others are same =
    findings_law.unique state.store state.regs.dbr findings others are.found same.found

isolated_by :
    (state : State (List ℕ)) (findings : List (ℕ × ℕ)) → AreFindings state.store state.regs.dbr findings → findings ≡ []
    → IsIsolated state.store state.regs.dbr
isolated_by state findings found none = record {
  isolates = core_isolated state.store state.regs.dbr
      (findings_law.sound state.store state.regs.dbr (subst (AreFindings state.store state.regs.dbr) none found));
}

found_goes :
    (command : ImageCommand) (state : State (List ℕ)) (findings : List (ℕ × ℕ)) (events : List Event)
    (result : Result (Unit {0}) Status)
    → AreAuditFindings state findings → Goes (command_after_audit command state findings) events result
    → Goes (on_image command state) events result
unfolding Goes on_image
found_goes command state findings events result are goes = inl (record { value = findings; is = are; rest = goes })

image_some : (command : ImageCommand) (state : State (List ℕ)) → HasEnd (on_image command state)
image_some command state none =
    some_findings state.store state.regs.dbr (λ findings found.
    let end : SomeEnd (command_after_audit command state findings) = found_end command state findings in
    none end.events end.result
    (found_goes command state findings end.events end.result
    (record { found = found; isolated = isolated_by state findings found }) end.goes) end.is_end)

ends_same :
    (command : ImageCommand) (state : State (List ℕ)) (findings others : List (ℕ × ℕ)) (events : List Event)
    (result : Result (Unit {0}) Status)
    → findings ≡ others → EndsByFindings command state findings events result
    → EndsByFindings command state others events result
ends_same command state findings others events result same ends =
    subst (λ f. EndsByFindings command state f events result) same ends

image_one :
    (command : ImageCommand) (state : State (List ℕ)) (events others : List Event)
    (result other : Result (Unit {0}) Status)
    → Goes (on_image command state) events result → IsEnd result → Goes (on_image command state) others other
    → IsEnd other
    → (events ≡ others) × (result ≡ other)
image_one command state events others result other goes end goes' end' =
    let one : Ended command state events result = image_ended command state events result goes end in
    let two : Ended command state others other = image_ended command state others other goes' end' in
    let same : two.findings ≡ one.findings = one_list state two.findings one.findings two.are one.are in
    both_end (image_pieces command state one.findings) (image_status command state one.findings) events others result
    other one.ends
    (ends_same command state two.findings one.findings others other same two.ends)

image_passed :
    (command : ImageCommand) (state : State (List ℕ)) (events : List Event) (result : Result (Unit {0}) Status)
    → Goes (on_image command state) events result → IsEnd result → IsAudited state.store state.regs.dbr
    → EndsByFindings command state [] events result
image_passed command state events result goes end audit_core =
    let one : Ended command state events result = image_ended command state events result goes end in
    ends_same command state one.findings [] events result
    (findings_law.complete state.store state.regs.dbr one.findings audit_core one.are.found) one.ends

by_finding :
    (command : ImageCommand) (state : State (List ℕ)) (findings : List (ℕ × ℕ)) (events : List Event)
    (result : Result (Unit {0}) Status)
    → AreAuditFindings state findings → EndsByFindings command state findings events result
    → ¬ IsAudited state.store state.regs.dbr → EndsBySomeFindings command state events result
by_finding command state [] events result are ends fails =
    absurd (fails (findings_law.sound state.store state.regs.dbr are.found))
by_finding command state (f ∷ findings) events result are ends fails =
    record { first = f; others = findings; are = are; ends = ends }

image_failed :
    (command : ImageCommand) (state : State (List ℕ)) (events : List Event) (result : Result (Unit {0}) Status)
    → Goes (on_image command state) events result → IsEnd result → ¬ IsAudited state.store state.regs.dbr
    → EndsBySomeFindings command state events result
image_failed command state events result goes end fails =
    let one : Ended command state events result = image_ended command state events result goes end in
    by_finding command state one.findings events result one.are one.ends fails

pub image_end_law : ImageEndLaw
image_end_law = record {
  one_list = one_list;
  none = λ state findings are audit_core. findings_law.complete state.store state.regs.dbr findings audit_core are.found;
  only = λ state are. findings_law.sound state.store state.regs.dbr are.found;
  some = image_some;
  one = image_one;
  passed = image_passed;
  failed = image_failed;
}

-- ---- Done

bare_done :
    (bare : BareRun) (state : State (List ℕ)) (findings : List (ℕ × ℕ)) → (findings ≡ []) ⊎ (bare.unaudited ≡ true)
    → last_outcome (run bare.steps state) ≡ Stopped Dis → image_status (Bare bare) state findings ≡ Done
bare_done bare state [] may dis = ap status_after dis
bare_done bare state (f ∷ findings) (inl none) dis = absurd (cc)
bare_done bare state (f ∷ findings) (inr un) dis =
    ap (λ b. bare_status b bare.steps state (f ∷ findings)) un ∙ ap status_after dis

-- An audit that passes finds nothing, unless it does not matter.
none_by :
    (state : State (List ℕ)) (findings : List (ℕ × ℕ)) (unaudited : Bool)
    → AreFindings state.store state.regs.dbr findings
    → MayRun (IsAudited state.store state.regs.dbr) unaudited → (findings ≡ []) ⊎ (unaudited ≡ true)
none_by state findings unaudited found (inl audit_core) =
    inl (findings_law.complete state.store state.regs.dbr findings audit_core found)
none_by state findings unaudited found (inr un) = inr un

status_done :
    (command : ImageCommand) (state : State (List ℕ)) (findings : List (ℕ × ℕ))
    → AreFindings state.store state.regs.dbr findings
    → ImageNeeds command state → image_status command state findings ≡ Done
status_done (Bare bare) state findings found needs =
    bare_done bare state findings (none_by state findings bare.unaudited found needs.0) needs.1
status_done Audit state findings found needs =
    ap (λ f. audit_status (passes f)) (findings_law.complete state.store state.regs.dbr findings needs found)

-- If the needs of a command are met, a call that ends has the result Done.
pub image_done :
    (command : ImageCommand) (state : State (List ℕ)) (events : List Event) (result : Result (Unit {0}) Status)
    → Goes (on_image command state) events result → IsEnd result → ImageNeeds command state → result ≡ Ok tt
image_done command state events result goes end needs =
    let one : Ended command state events result = image_ended command state events result goes end in
    one.ends.result_is ∙ ap result_of_status (status_done command state one.findings one.are.found needs)

-- ---- `audit yes`

-- The text of a command begins with that of the audit.
bare_begins :
    (is : Bool) (steps : ℕ) (state : State (List ℕ)) (findings : List (ℕ × ℕ))
    → (more : List ℕ) × (joined (bare_pieces is steps state findings) ≡ audit_text findings ++ more)
bare_begins true steps state findings =
    (joined (run_pieces steps state), joined_on (audit_pieces findings) (run_pieces steps state))
bare_begins false steps state findings = ([], sym (append-nil (audit_text findings)))

text_begins :
    (command : ImageCommand) (state : State (List ℕ)) (findings : List (ℕ × ℕ))
    → (more : List ℕ) × (joined (image_pieces command state findings) ≡ audit_text findings ++ more)
text_begins (Bare bare) state findings = bare_begins (is_run_allowed findings bare.unaudited) bare.steps state findings
text_begins Audit state findings = ([], sym (append-nil (audit_text findings)))

found_passes :
    (command : ImageCommand) (state : State (List ℕ)) (findings : List (ℕ × ℕ)) → AreAuditFindings state findings
    → StartsWith yes_line (image_pieces command state findings) → PassesAudit state
found_passes command state findings are starts =
    let begins : (more : List ℕ) × (joined (image_pieces command state findings) ≡ audit_text findings ++ more) =
    text_begins command state findings in
    let none : findings ≡ [] = none_found findings begins.0 starts.rest (sym begins.1 ∙ starts.is) in
    record {
      conditions = findings_law.sound state.store state.regs.dbr
          (subst (AreFindings state.store state.regs.dbr) none are.found);
      isolates = are.isolated none;
    }

-- If what a call puts begins with `audit yes`, the image passes its audit.
pub image_yes :
    (command : ImageCommand) (state : State (List ℕ)) (events : List Event) (result : Result (Unit {0}) Status)
    → Goes (on_image command state) events result → StartsWith yes_line (pieces_of events) → PassesAudit state
image_yes command state events result goes starts =
    elim (image_found command state events result goes) [
      | inl found ↦ (
          let begin : (left : List (List ℕ)) × (image_pieces command state found.findings ≡ pieces_of events ++ left) =
          pieces_begin (image_pieces command state found.findings) (image_status command state found.findings) events
          result found.puts in
          found_passes command state found.findings found.are
          (starts_longer yes_line (image_pieces command state found.findings) (pieces_of events) begin.0
          begin.1 starts))
      | inr none ↦ none_starts events none.none starts
    ]

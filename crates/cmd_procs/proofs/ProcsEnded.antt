-- How the command on processes ends: by the findings of their joint audit, of which there is one list; with Done, if
-- its needs are met; and what it means that its text begins with `audit yes`.
use Rattle.std.proofs.Common.{◌≡◌, ◌⊎◌, ℕ, ◌+◌, Bool, true, false, List, [], ◌∷◌, ◌++◌, Option, Some, None, Result, Ok}
use Rattle.std.proofs.Common.{Err, refl, sym, ap, subst, ◌∙◌, inl, inr, arith, get_or}
use Rattle.std.proofs.lemmas.List.{append-nil}
use Rattle.std.proofs.lemmas.List.Folds.{concat-append as joined_on}
use Rattle.m36_outside.specs.Passing.{joined}
use Rattle.m36_text.specs.Lines.{as_line}
use Rattle.m36_desc.specs.Fields.{DbrFields}
use Rattle.m36_model.specs.JointAudit.{JointFindingFields, IsJointTable, IsJointSegment, IsJointlyAudited, AreJointFindings}
use Rattle.m36_model.specs.JointAudit.{AreFindingsFrom, findings_of_process, joint_finding}
use Rattle.m36_isol.proofs.JointFindings.{joint_findings_law}
use Rattle.m36_isol.proofs.Schedules.{jointly_isolated}
use Rattle.m36_procs.specs.ProcsFields.{ProcsFields}
use Rattle.m36_procs.specs.ScheduleText.{schedule_pieces}
use Rattle.m36_world.specs.declared.event.Event.{Event}
use Rattle.m36_status.specs.declared.status.Status.{Status}
use Rattle.m36_status.specs.declared.status.Status.TheVariants.{Done, NoMemory}
use Rattle.m36_program.specs.Alike.{IsEnd}
use Rattle.m36_program.specs.Early.{result_of_status, ends}
use Rattle.m36_program.specs.Ended.{HasEnd, StartsWith}
use Rattle.m36_program.specs.Goes.{Ends, Chosen, Goes}
use Rattle.m36_program.specs.Program.{quiet, Program, puts_all}
use Rattle.m36_program.specs.MayHappen.{pieces_of}
use Rattle.m36_program.proofs.PieceLaws.{PutsBy, puts_ended}
use Rattle.m36_program.proofs.PutLaws.{puts_both}
use Rattle.cmd_image.specs.AuditText.{yes_line}
use Rattle.cmd_image.specs.ImageAudit.{is_run_allowed, audit_status}
use Rattle.cmd_image.proofs.SomeFindings.{some_find, some_findings}
use Rattle.cmd_image.proofs.PutEnds.{whole_ends, none_ends, pieces_begin, both_end, starts_longer, none_starts, SomeEnd}
use Rattle.cmd_image.proofs.PutEnds.{puts_end}
use Rattle.cmd_procs.specs.JointText.{process_line, between_line, process_or_between_line, joint_finding_pieces, joint_audit_pieces, joint_audit_text}
use Rattle.cmd_procs.specs.Scheduled.{dbrs_of, SchedulesAreIsolated, PassesJointAudit}
use Rattle.cmd_procs.specs.ProcsProgram.{AreScheduleFindings, audit_only, run_schedule, audit_and_run, audit_and_run_if, procs_after_audit}
use Rattle.cmd_procs.specs.ProcsProgram.{on_procs}
use Rattle.cmd_procs.specs.ProcsEnds.{procs_pieces, procs_status, EndsByJointFindings, EndsBySomeJointFindings, ProcsEndLaw}
use Rattle.cmd_procs.specs.Needs.{ScheduleNeeds}

-- ---- what is put, by the findings

audit_puts :
    (findings : List JointFindingFields) (events : List Event) (result : Result (Unit {0}) Status)
    → Goes (audit_only findings) events result → PutsBy (joint_audit_pieces findings) (audit_status false) events result
unfolding audit_only
audit_puts findings events result goes =
    puts_ended quiet (joint_audit_pieces findings) (audit_status false) tt events result goes

-- a run after its audit, as one list of pieces
both_is :
    (p : ProcsFields) (findings : List JointFindingFields)
    → audit_and_run p findings ≡ puts_all (joint_audit_pieces findings ++ schedule_pieces p.schedule p.state) (ends Done tt)
unfolding audit_and_run run_schedule
both_is p findings =
    let last : Program quiet (Unit {0}) = ends Done tt in
    sym (puts_both (joint_audit_pieces findings) (schedule_pieces p.schedule p.state) last)

run_puts :
    (p : ProcsFields) (findings : List JointFindingFields) (events : List Event) (result : Result (Unit {0}) Status)
    → Goes (audit_and_run p findings) events result
    → PutsBy (joint_audit_pieces findings ++ schedule_pieces p.schedule p.state) Done events result
run_puts p findings events result goes =
    puts_ended quiet (joint_audit_pieces findings ++ schedule_pieces p.schedule p.state) Done tt events result
    (subst (λ q. Goes q events result) (both_is p findings) goes)

by_puts :
    (is : Bool) (p : ProcsFields) (findings : List JointFindingFields) (events : List Event) (result : Result (Unit {0}) Status)
    → Goes (audit_and_run_if is p findings) events result → PutsBy (procs_pieces is p findings) (procs_status is) events result
by_puts true p findings events result goes = run_puts p findings events result goes
by_puts false p findings events result goes = audit_puts findings events result goes

audit_end : (findings : List JointFindingFields) → SomeEnd (audit_only findings)
unfolding audit_only
audit_end findings = puts_end (joint_audit_pieces findings) (audit_status false) tt

by_end : (is : Bool) (p : ProcsFields) (findings : List JointFindingFields) → SomeEnd (audit_and_run_if is p findings)
by_end true p findings =
    subst SomeEnd (sym (both_is p findings))
    (puts_end (joint_audit_pieces findings ++ schedule_pieces p.schedule p.state) Done tt)
by_end false p findings = audit_end findings

-- The findings of the audit, and what was put by them.
record Found (unaudited : Bool) (p : ProcsFields) (events : List Event) (result : Result (Unit {0}) Status)
    : Type 0 where
  findings : List JointFindingFields
  are : AreScheduleFindings p.state findings
  puts : PutsBy (procs_pieces (is_run_allowed findings unaudited) p findings) (procs_status (is_run_allowed findings unaudited))
      events result

on_goes :
    (unaudited : Bool) (p : ProcsFields) (events : List Event) (result : Result (Unit {0}) Status)
    → Goes (on_procs unaudited p) events result
    → Chosen (AreScheduleFindings p.state) (λ f. Goes (procs_after_audit unaudited p f) events result)
    ⊎ Ends (Err NoMemory) events result
unfolding Goes on_procs
on_goes unaudited p events result goes = goes

procs_found :
    (unaudited : Bool) (p : ProcsFields) (events : List Event) (result : Result (Unit {0}) Status)
    → Goes (on_procs unaudited p) events result → Found unaudited p events result ⊎ Ends (Err NoMemory) events result
procs_found unaudited p events result goes =
    elim (on_goes unaudited p events result goes) [
      | inl chosen ↦ inl (record {
        findings = chosen.value;
        are = chosen.is;
        puts = by_puts (is_run_allowed chosen.value unaudited) p chosen.value events result chosen.rest;
      })
      | inr none ↦ inr none
    ]

-- The findings of the audit, and that the call ended by them.
record Ended (unaudited : Bool) (p : ProcsFields) (events : List Event) (result : Result (Unit {0}) Status)
    : Type 0 where
  findings : List JointFindingFields
  are : AreScheduleFindings p.state findings
  ends : EndsByJointFindings unaudited p findings events result

procs_ended :
    (unaudited : Bool) (p : ProcsFields) (events : List Event) (result : Result (Unit {0}) Status)
    → Goes (on_procs unaudited p) events result → IsEnd result → Ended unaudited p events result
procs_ended unaudited p events result goes end =
    elim (procs_found unaudited p events result goes) [
      | inl found ↦ record {
        findings = found.findings;
        are = found.are;
        ends = whole_ends (procs_pieces (is_run_allowed found.findings unaudited) p found.findings)
            (procs_status (is_run_allowed found.findings unaudited)) events result end found.puts;
      }
      | inr none ↦ none_ends events result end none
    ]

-- ---- it is not possible that there are no findings

some_from :
    (i : ℕ) (core : List ℕ) (dbrs : List DbrFields)
    → ¬ ((findings : List JointFindingFields) → ¬ AreFindingsFrom i core dbrs findings)
some_from i core [] none = none [] refl
some_from i core (dbr ∷ dbrs) none =
    some_findings core dbr (λ own found.
    some_from (i + 1) core dbrs (λ rest more.
    none (findings_of_process i own ++ rest) (own, found, (rest, more, refl))))

some_joint :
    (core : List ℕ) (dbrs : List DbrFields) → ¬ ((findings : List JointFindingFields) → ¬ AreJointFindings core dbrs findings)
some_joint core dbrs none =
    some_from 0 core dbrs (λ own finds_own.
    some_find (IsJointTable core dbrs) (λ second finds_second.
    some_find (IsJointSegment core dbrs) (λ third finds_third.
    none (own ++ joint_finding 2 second ++ joint_finding 3 third) (record {
      own = own;
      finds_own = finds_own;
      second = second;
      finds_second = finds_second;
      third = third;
      finds_third = finds_third;
      listed = refl;
    }))))

isolated_by :
    (p : ProcsFields) (findings : List JointFindingFields) → AreJointFindings p.state.store (dbrs_of p.state) findings
    → findings ≡ []
    → SchedulesAreIsolated p.state
isolated_by p findings found none = record {
  isolates = jointly_isolated p.state.store (dbrs_of p.state)
      (joint_findings_law.sound p.state.store (dbrs_of p.state)
      (subst (AreJointFindings p.state.store (dbrs_of p.state)) none found));
}

found_goes :
    (unaudited : Bool) (p : ProcsFields) (findings : List JointFindingFields) (events : List Event)
    (result : Result (Unit {0}) Status)
    → AreScheduleFindings p.state findings → Goes (procs_after_audit unaudited p findings) events result
    → Goes (on_procs unaudited p) events result
unfolding Goes on_procs
found_goes unaudited p findings events result are goes = inl (record { value = findings; is = are; rest = goes })

procs_some : (unaudited : Bool) (p : ProcsFields) → HasEnd (on_procs unaudited p)
procs_some unaudited p none =
    some_joint p.state.store (dbrs_of p.state) (λ findings found.
    let end : SomeEnd (procs_after_audit unaudited p findings) = by_end (is_run_allowed findings unaudited) p findings in
    none end.events end.result
    (found_goes unaudited p findings end.events end.result
    (record { found = found; isolated = isolated_by p findings found }) end.goes) end.is_end)

-- ---- the law

one_list :
    (p : ProcsFields) (findings others : List JointFindingFields) → AreScheduleFindings p.state findings
    → AreScheduleFindings p.state others → findings ≡ others
one_list p findings others are same =
    joint_findings_law.unique p.state.store (dbrs_of p.state) findings others are.found same.found

none_listed :
    (p : ProcsFields) (findings : List JointFindingFields) → AreScheduleFindings p.state findings
    → IsJointlyAudited p.state.store (dbrs_of p.state) → findings ≡ []
none_listed p findings are audit_jointly =
    joint_findings_law.complete p.state.store (dbrs_of p.state) findings audit_jointly are.found

ends_same :
    (unaudited : Bool) (p : ProcsFields) (findings others : List JointFindingFields) (events : List Event)
    (result : Result (Unit {0}) Status)
    → findings ≡ others → EndsByJointFindings unaudited p findings events result → EndsByJointFindings unaudited p others events result
ends_same unaudited p findings others events result same ends =
    subst (λ f. EndsByJointFindings unaudited p f events result) same ends

procs_one :
    (unaudited : Bool) (p : ProcsFields) (events others : List Event) (result other : Result (Unit {0}) Status)
    → Goes (on_procs unaudited p) events result → IsEnd result → Goes (on_procs unaudited p) others other → IsEnd other
    → (events ≡ others) × (result ≡ other)
procs_one unaudited p events others result other goes end goes' end' =
    let one : Ended unaudited p events result = procs_ended unaudited p events result goes end in
    let two : Ended unaudited p others other = procs_ended unaudited p others other goes' end' in
    let same : two.findings ≡ one.findings = one_list p two.findings one.findings two.are one.are in
    both_end (procs_pieces (is_run_allowed one.findings unaudited) p one.findings)
    (procs_status (is_run_allowed one.findings unaudited))
    events others result other one.ends (ends_same unaudited p two.findings one.findings others other same two.ends)

procs_passed :
    (unaudited : Bool) (p : ProcsFields) (events : List Event) (result : Result (Unit {0}) Status)
    → Goes (on_procs unaudited p) events result → IsEnd result → IsJointlyAudited p.state.store (dbrs_of p.state)
    → EndsByJointFindings unaudited p [] events result
procs_passed unaudited p events result goes end audit_jointly =
    let one : Ended unaudited p events result = procs_ended unaudited p events result goes end in
    ends_same unaudited p one.findings [] events result (none_listed p one.findings one.are audit_jointly) one.ends

by_some :
    (unaudited : Bool) (p : ProcsFields) (findings : List JointFindingFields) (events : List Event)
    (result : Result (Unit {0}) Status)
    → AreScheduleFindings p.state findings → EndsByJointFindings unaudited p findings events result
    → ¬ IsJointlyAudited p.state.store (dbrs_of p.state) → EndsBySomeJointFindings unaudited p events result
by_some unaudited p [] events result are ends fails =
    absurd (fails (joint_findings_law.sound p.state.store (dbrs_of p.state) are.found))
by_some unaudited p (f ∷ findings) events result are ends fails =
    record { first = f; others = findings; are = are; ends = ends }

procs_failed :
    (unaudited : Bool) (p : ProcsFields) (events : List Event) (result : Result (Unit {0}) Status)
    → Goes (on_procs unaudited p) events result → IsEnd result → ¬ IsJointlyAudited p.state.store (dbrs_of p.state)
    → EndsBySomeJointFindings unaudited p events result
procs_failed unaudited p events result goes end fails =
    let one : Ended unaudited p events result = procs_ended unaudited p events result goes end in
    by_some unaudited p one.findings events result one.are one.ends fails

pub procs_end_law : ProcsEndLaw
procs_end_law = record {
  one_list = one_list;
  none = none_listed;
  only = λ p are. joint_findings_law.sound p.state.store (dbrs_of p.state) are.found;
  some = procs_some;
  one = procs_one;
  passed = procs_passed;
  failed = procs_failed;
}

-- ---- Done

status_done :
    (unaudited : Bool) (findings : List JointFindingFields) → (findings ≡ []) ⊎ (unaudited ≡ true)
    → procs_status (is_run_allowed findings unaudited) ≡ Done
status_done unaudited [] may = refl
status_done unaudited (f ∷ findings) (inl none) = absurd (cc)
status_done unaudited (f ∷ findings) (inr un) = ap procs_status un

-- An audit that passes finds nothing, unless it does not matter.
none_by :
    (p : ProcsFields) (findings : List JointFindingFields) (unaudited : Bool) → AreScheduleFindings p.state findings
    → ScheduleNeeds unaudited p → (findings ≡ []) ⊎ (unaudited ≡ true)
none_by p findings unaudited are (inl audit_jointly) = inl (none_listed p findings are audit_jointly)
none_by p findings unaudited are (inr un) = inr un

-- If the needs of the command are met, a call that ends has the result Done.
pub procs_done :
    (unaudited : Bool) (p : ProcsFields) (events : List Event) (result : Result (Unit {0}) Status)
    → Goes (on_procs unaudited p) events result → IsEnd result → ScheduleNeeds unaudited p → result ≡ Ok tt
procs_done unaudited p events result goes end needs =
    let one : Ended unaudited p events result = procs_ended unaudited p events result goes end in
    one.ends.result_is ∙ ap result_of_status (status_done unaudited one.findings (none_by p one.findings unaudited one.are needs))

-- ---- `audit yes`

-- The text begins with that of the audit.
text_begins :
    (is : Bool) (p : ProcsFields) (findings : List JointFindingFields)
    → (more : List ℕ) × (joined (procs_pieces is p findings) ≡ joint_audit_text findings ++ more)
text_begins true p findings =
    let run : List (List ℕ) = schedule_pieces p.schedule p.state in
    (joined run, joined_on (joint_audit_pieces findings) run)
text_begins false p findings = ([], sym (append-nil (joint_audit_text findings)))

-- With a finding the text of the audit does not begin with `audit yes`.
found_no :
    (f : JointFindingFields) (findings : List JointFindingFields) (more rest : List ℕ)
    → joint_audit_text (f ∷ findings) ++ more ≡ yes_line ++ rest → ⊥
unfolding joint_finding_pieces process_line between_line
found_no f findings more rest e = by f.process e
  where
    by :
        (process : Option ℕ)
        → (as_line (process_or_between_line process f.condition f.place) ++ joined (joint_finding_pieces findings)) ++ more ≡ yes_line ++ rest → ⊥
    by (Some process) g =
        let n : 110 ≡ 121 = ap (λ (t : List ℕ). get_or t 6 0) g in
        absurd (omega (arith, n))
    by None g =
        let n : 110 ≡ 121 = ap (λ (t : List ℕ). get_or t 6 0) g in
        absurd (omega (arith, n))

none_found :
    (findings : List JointFindingFields) (more rest : List ℕ) → joint_audit_text findings ++ more ≡ yes_line ++ rest → findings ≡ []
none_found [] more rest e = refl
none_found (f ∷ findings) more rest e = absurd (found_no f findings more rest e)

found_passes :
    (is : Bool) (p : ProcsFields) (findings : List JointFindingFields) → AreScheduleFindings p.state findings
    → StartsWith yes_line (procs_pieces is p findings) → PassesJointAudit p.state
found_passes is p findings are starts =
    let begins : (more : List ℕ) × (joined (procs_pieces is p findings) ≡ joint_audit_text findings ++ more) =
    text_begins is p findings in
    let none : findings ≡ [] = none_found findings begins.0 starts.rest (sym begins.1 ∙ starts.is) in
    record {
      conditions = joint_findings_law.sound p.state.store (dbrs_of p.state)
          (subst (AreJointFindings p.state.store (dbrs_of p.state)) none are.found);
      isolates = are.isolated none;
    }

-- If what a call puts begins with `audit yes`, the processes pass their joint audit.
pub procs_yes :
    (unaudited : Bool) (p : ProcsFields) (events : List Event) (result : Result (Unit {0}) Status)
    → Goes (on_procs unaudited p) events result → StartsWith yes_line (pieces_of events) → PassesJointAudit p.state
procs_yes unaudited p events result goes starts =
    elim (procs_found unaudited p events result goes) [
      | inl found ↦ (
          let is : Bool = is_run_allowed found.findings unaudited in
          let begin : (left : List (List ℕ)) × (procs_pieces is p found.findings ≡ pieces_of events ++ left) =
          pieces_begin (procs_pieces is p found.findings) (procs_status is) events result found.puts in
          found_passes is p found.findings found.are
          (starts_longer yes_line (procs_pieces is p found.findings) (pieces_of events) begin.0 begin.1 starts))
      | inr none ↦ none_starts events none.none starts
    ]

-- Laws of the text of a joint audit that is put line by line.
use Rattle.std.proofs.Common.{◌≡◌, ℕ, ◌+◌, ◌<◌, ◌≤◌, List, [], ◌∷◌, length, drop, get_or, Result, Ok, Err, refl, sym, ap, subst, ◌∙◌, arith}
use Rattle.std.proofs.lemmas.List.{at_drop_more, at_drop_all}
use Rattle.m36_text.specs.Lines.{as_line}
use Rattle.m36_audit.specs.declared.joint_verdict.JointFinding.{JointFinding}
use Rattle.m36_audit.specs.Joints.{found_of, all_found}
use Rattle.m36_world.specs.Seen.{Seen}
use Rattle.m36_status.specs.declared.status.Status.{Status}
use Rattle.m36_program.specs.Performs.{Performs, Leads}
use Rattle.m36_program.specs.Program.{quiet, Program, done, puts}
use Rattle.m36_program.specs.Readers.{put_one}
use Rattle.m36_program.proofs.LeadLaws.{leads_start, leads_as, leads_ends, leads_put, leads_unput}
use Rattle.m36_program.proofs.Performing.{goes_done, performs_none}
use Rattle.m36_program.proofs.PutLaws.{puts_none}
use Rattle.cmd_image.specs.AuditText.{yes_line}
use Rattle.cmd_image.proofs.AuditPuts.{all_put, put_more, one_is}
use Rattle.cmd_procs.specs.JointText.{joint_finding_line, joint_finding_pieces, joint_audit_pieces}

-- ---- the lines of findings

abbrev pub pieces_of_findings : List JointFinding → List (List ℕ)
pieces_of_findings findings = joint_finding_pieces (all_found findings)

abbrev pub line_at : List JointFinding → ℕ → JointFinding → List ℕ
line_at findings i d = as_line (joint_finding_line (found_of (get_or findings i d)))

piece_first :
    (f : JointFinding) (findings : List JointFinding)
    → pieces_of_findings (f ∷ findings) ≡ as_line (joint_finding_line (found_of f)) ∷ pieces_of_findings findings
unfolding joint_finding_pieces
piece_first f findings = refl

piece_none : pieces_of_findings [] ≡ []
unfolding joint_finding_pieces
piece_none = refl

left_at :
    (findings : List JointFinding) (i : ℕ) (d : JointFinding) → i < length findings
    → all_put (pieces_of_findings (drop i findings)) ≡ puts (line_at findings i d) (all_put (pieces_of_findings (drop (i + 1) findings)))
left_at findings i d inside =
    ap all_put (at_drop_more pieces_of_findings findings i d inside ∙ piece_first (get_or findings i d) (drop (i + 1) findings))
    ∙ put_more (line_at findings i d) (pieces_of_findings (drop (i + 1) findings))

pub findings_start :
    (findings : List JointFinding) (seen : Seen)
    → Leads (all_put (pieces_of_findings findings)) (all_put (pieces_of_findings findings)) seen seen
findings_start findings seen = leads_start (all_put (pieces_of_findings findings)) seen

-- the line of a finding was put
pub finding_put :
    (findings : List JointFinding) (i : ℕ) (d : JointFinding) (first : Program quiet (Unit {0})) (old between new : Seen)
    → i < length findings → Leads (all_put (pieces_of_findings (drop i findings))) first old between
    → Performs {may = quiet} (put_one (line_at findings i d)) (Ok tt) between new
    → Leads (all_put (pieces_of_findings (drop (i + 1) findings))) first old new
finding_put findings i d first old between new inside left put =
    leads_put (line_at findings i d) (all_put (pieces_of_findings (drop (i + 1) findings))) first old between new
    (leads_as (all_put (pieces_of_findings (drop i findings))) _ first old between (left_at findings i d inside) left) put

-- the line of a finding was not put
pub finding_unput :
    (findings : List JointFinding) (i : ℕ) (d : JointFinding) (first : Program quiet (Unit {0})) (s : Status) (old between new : Seen)
    → i < length findings → Leads (all_put (pieces_of_findings (drop i findings))) first old between
    → Performs {may = quiet} (put_one (line_at findings i d)) (Err s) between new
    → Performs first (Err s) old new
finding_unput findings i d first s old between new inside left put =
    leads_unput (line_at findings i d) (all_put (pieces_of_findings (drop (i + 1) findings))) first s old between new
    (leads_as (all_put (pieces_of_findings (drop i findings))) _ first old between (left_at findings i d inside) left) put

-- all lines were put
pub findings_end :
    (findings : List JointFinding) (i : ℕ) (first : Program quiet (Unit {0})) (old new : Seen)
    → length findings ≤ i → Leads (all_put (pieces_of_findings (drop i findings))) first old new
    → Performs first (Ok tt) old new
findings_end findings i first old new past left =
    let none : all_put (pieces_of_findings (drop i findings)) ≡ done tt =
    ap all_put (at_drop_all pieces_of_findings findings i past ∙ piece_none) ∙ puts_none (done tt) in
    leads_ends (done tt) first (Ok tt) old new new
    (leads_as (all_put (pieces_of_findings (drop i findings))) (done tt) first old new none left)
    (performs_none (done tt) (Ok tt) new (goes_done quiet tt))

pub ruleset findings_in_turn = (findings_start, finding_put, finding_unput, findings_end)

-- ---- the whole text

pieces_of_none : (findings : List JointFinding) → length findings ≡ 0 → joint_audit_pieces (all_found findings) ≡ yes_line ∷ []
pieces_of_none [] none = refl
pieces_of_none (f ∷ findings) none = absurd (omega (arith, none))

pieces_of_some : (findings : List JointFinding) → 0 < length findings → joint_audit_pieces (all_found findings) ≡ pieces_of_findings findings
pieces_of_some [] some = absurd (omega arith)
pieces_of_some (f ∷ findings) some = refl

pub yes_put :
    (findings : List JointFinding) (result : Result (Unit {0}) Status) (old new : Seen)
    → length findings ≡ 0 → Performs {may = quiet} (put_one yes_line) result old new
    → Performs (all_put (joint_audit_pieces (all_found findings))) result old new
yes_put findings result old new none put =
    subst (λ p. Performs p result old new) (one_is yes_line ∙ sym (ap all_put (pieces_of_none findings none))) put

pub lines_put :
    (findings : List JointFinding) (result : Result (Unit {0}) Status) (old new : Seen)
    → 0 < length findings → Performs (all_put (pieces_of_findings findings)) result old new
    → Performs (all_put (joint_audit_pieces (all_found findings))) result old new
lines_put findings result old new some put =
    subst (λ p. Performs p result old new) (sym (ap all_put (pieces_of_some findings some))) put

pub ruleset joint_texts = (yes_put, lines_put)

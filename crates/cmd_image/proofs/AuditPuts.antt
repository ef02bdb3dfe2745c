-- Laws of the text of an audit that is put line by line.
use Rattle.std.proofs.Common.{◌≡◌, ℕ, ◌+◌, ◌<◌, ◌≤◌, List, [], ◌∷◌, length, drop, get_or, Result, Ok, Err, refl, sym, ap, subst, ◌∙◌}
use Rattle.std.proofs.lemmas.List.{at_drop_all}
use Rattle.m36_text.specs.Lines.{as_line}
use Rattle.m36_audit.specs.Findings.{finding_pairs}
use Rattle.m36_audit.specs.declared.verdict.Finding.{Finding}
use Rattle.m36_world.specs.Seen.{Seen}
use Rattle.m36_status.specs.declared.status.Status.{Status}
use Rattle.m36_program.specs.Performs.{Performs, Leads}
use Rattle.m36_program.specs.Program.{quiet, Program, done, puts, puts_all, then_with}
use Rattle.m36_program.specs.Readers.{put_one}
use Rattle.m36_program.proofs.LeadLaws.{leads_start, leads_as, leads_ends, leads_put, leads_unput}
use Rattle.m36_program.proofs.Performing.{goes_done, performs_none, performs_then, performs_stop}
use Rattle.m36_program.proofs.PutLaws.{puts_one, puts_none}
use Rattle.cmd_image.specs.AuditText.{finding_line, yes_line, audit_pieces}
use Rattle.cmd_image.proofs.AuditTexts.{pieces_of_findings, piece_at, piece_none, pieces_of_none, pieces_of_some}

-- some pieces, and nothing after them
abbrev pub all_put : List (List ℕ) → Program quiet (Unit {0})
all_put pieces = puts_all pieces (done tt)

-- ---- the lines of findings

abbrev pub line_at : List Finding → ℕ → Finding → List ℕ
line_at findings i d = as_line (finding_line ((get_or findings i d).condition, (get_or findings i d).place))

pub put_more : (piece : List ℕ) (pieces : List (List ℕ)) → all_put (piece ∷ pieces) ≡ puts piece (all_put pieces)
unfolding puts_all
put_more piece pieces = refl

left_at :
    (findings : List Finding) (i : ℕ) (d : Finding) → i < length findings
    → all_put (pieces_of_findings (drop i findings)) ≡ puts (line_at findings i d) (all_put (pieces_of_findings (drop (i + 1) findings)))
left_at findings i d inside =
    ap all_put (piece_at findings i d inside) ∙ put_more (line_at findings i d) (pieces_of_findings (drop (i + 1) findings))

pub findings_start :
    (findings : List Finding) (seen : Seen)
    → Leads (all_put (pieces_of_findings findings)) (all_put (pieces_of_findings findings)) seen seen
findings_start findings seen = leads_start (all_put (pieces_of_findings findings)) seen

-- the line of a finding was put
pub finding_put :
    (findings : List Finding) (i : ℕ) (d : Finding) (first : Program quiet (Unit {0})) (old between new : Seen)
    → i < length findings → Leads (all_put (pieces_of_findings (drop i findings))) first old between
    → Performs {may = quiet} (put_one (line_at findings i d)) (Ok tt) between new
    → Leads (all_put (pieces_of_findings (drop (i + 1) findings))) first old new
finding_put findings i d first old between new inside left put =
    leads_put (line_at findings i d) (all_put (pieces_of_findings (drop (i + 1) findings))) first old between new
    (leads_as (all_put (pieces_of_findings (drop i findings))) _ first old between (left_at findings i d inside) left) put

-- the line of a finding was not put
pub finding_unput :
    (findings : List Finding) (i : ℕ) (d : Finding) (first : Program quiet (Unit {0})) (s : Status) (old between new : Seen)
    → i < length findings → Leads (all_put (pieces_of_findings (drop i findings))) first old between
    → Performs {may = quiet} (put_one (line_at findings i d)) (Err s) between new
    → Performs first (Err s) old new
finding_unput findings i d first s old between new inside left put =
    leads_unput (line_at findings i d) (all_put (pieces_of_findings (drop (i + 1) findings))) first s old between new
    (leads_as (all_put (pieces_of_findings (drop i findings))) _ first old between (left_at findings i d inside) left) put

-- all lines were put
pub findings_end :
    (findings : List Finding) (i : ℕ) (first : Program quiet (Unit {0})) (old new : Seen)
    → length findings ≤ i → Leads (all_put (pieces_of_findings (drop i findings))) first old new
    → Performs first (Ok tt) old new
findings_end findings i first old new past left =
    let none : all_put (pieces_of_findings (drop i findings)) ≡ done tt =
    ap all_put (at_drop_all pieces_of_findings findings i past ∙ piece_none) ∙ puts_none (done tt) in
    leads_ends (done tt) first (Ok tt) old new new
    (leads_as (all_put (pieces_of_findings (drop i findings))) (done tt) first old new none left)
    (performs_none (done tt) (Ok tt) new (goes_done quiet tt))

pub ruleset findings_in_turn = (findings_start, finding_put, finding_unput, findings_end)

-- ---- the whole text

pub one_is : (piece : List ℕ) → put_one piece ≡ all_put (piece ∷ [])
unfolding put_one
one_is piece = sym (puts_one piece (done tt))

pub yes_put :
    (findings : List Finding) (result : Result (Unit {0}) Status) (old new : Seen)
    → length findings ≡ 0 → Performs {may = quiet} (put_one yes_line) result old new
    → Performs (all_put (audit_pieces (finding_pairs findings))) result old new
yes_put findings result old new none put =
    subst (λ p. Performs p result old new) (one_is yes_line ∙ sym (ap all_put (pieces_of_none findings none))) put

pub lines_put :
    (findings : List Finding) (result : Result (Unit {0}) Status) (old new : Seen)
    → 0 < length findings → Performs (all_put (pieces_of_findings findings)) result old new
    → Performs (all_put (audit_pieces (finding_pairs findings))) result old new
lines_put findings result old new some put =
    subst (λ p. Performs p result old new) (sym (ap all_put (pieces_of_some findings some))) put

pub ruleset audit_texts = (yes_put, lines_put)

-- ---- and what follows it

then_rest :
    (pieces : List (List ℕ)) (rest : Program quiet (Unit {0})) → then_with (all_put pieces) (λ u. rest) ≡ puts_all pieces rest
unfolding then_with puts_all
then_rest [] rest = refl
then_rest (piece ∷ pieces) rest = ap (puts piece) (then_rest pieces rest)

-- the pieces were put, and then the rest of the program followed
pub all_then :
    (pieces : List (List ℕ)) (rest : Program quiet (Unit {0})) (result : Result (Unit {0}) Status) (old between new : Seen)
    → Performs (all_put pieces) (Ok tt) old between → Performs rest result between new
    → Performs (puts_all pieces rest) result old new
all_then pieces rest result old between new put performs =
    subst (λ p. Performs p result old new) (then_rest pieces rest)
    (performs_then (all_put pieces) (λ u. rest) tt result old between new put performs)

-- not all of them were put
pub all_stop :
    (pieces : List (List ℕ)) (rest : Program quiet (Unit {0})) (s : Status) (old new : Seen)
    → Performs (all_put pieces) (Err s) old new → Performs (puts_all pieces rest) (Err s) old new
all_stop pieces rest s old new put =
    subst (λ p. Performs p (Err s) old new) (then_rest pieces rest)
    (performs_stop (all_put pieces) (λ u. rest) s old new put)

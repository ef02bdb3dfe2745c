-- Texts of audits, put line by line.
use Rattle.std.proofs.Common.{◌≡◌, ℕ, ◌+◌, ◌/◌, ◌%◌, ◌<◌, List, [], ◌∷◌, length, drop, get_or, refl, ◌∙◌, arith}
use Rattle.std.proofs.lemmas.List.{at_drop_more}
use Rattle.m36_text.specs.Digits.{octal_text, digits}
use Rattle.m36_text.specs.Lines.{as_line}
use Rattle.m36_audit.specs.Findings.{finding_pairs}
use Rattle.m36_audit.specs.declared.verdict.Finding.{Finding}
use Rattle.cmd_image.specs.AuditText.{finding_line, finding_pieces, yes_line, audit_pieces}

-- The last digits of a number are those of its remainder.
pub segment_digits : (v : ℕ) → octal_text 5 (v % 32768) ≡ octal_text 5 v
unfolding octal_text digits
segment_digits v =
    let a : v % 32768 / 4096 % 8 ≡ v / 4096 % 8 = omega arith in
    let b : v % 32768 / 512 % 8 ≡ v / 512 % 8 = omega arith in
    let c : v % 32768 / 64 % 8 ≡ v / 64 % 8 = omega arith in
    let d : v % 32768 / 8 % 8 ≡ v / 8 % 8 = omega arith in
    let e : v % 32768 / 1 % 8 ≡ v / 1 % 8 = omega arith in
    rw (a, b, c, d, e)

pub word_digits : (v : ℕ) → octal_text 8 (v % 16777216) ≡ octal_text 8 v
unfolding octal_text digits
word_digits v =
    let a : v % 16777216 / 2097152 % 8 ≡ v / 2097152 % 8 = omega arith in
    let b : v % 16777216 / 262144 % 8 ≡ v / 262144 % 8 = omega arith in
    let c : v % 16777216 / 32768 % 8 ≡ v / 32768 % 8 = omega arith in
    let d : v % 16777216 / 4096 % 8 ≡ v / 4096 % 8 = omega arith in
    let e : v % 16777216 / 512 % 8 ≡ v / 512 % 8 = omega arith in
    let f : v % 16777216 / 64 % 8 ≡ v / 64 % 8 = omega arith in
    let g : v % 16777216 / 8 % 8 ≡ v / 8 % 8 = omega arith in
    let h : v % 16777216 / 1 % 8 ≡ v / 1 % 8 = omega arith in
    rw (a, b, c, d, e, f, g, h)

pub ruleset digits_alone = (segment_digits, word_digits)

-- ---- the pieces of findings, one after another

abbrev pub pieces_of_findings : List Finding → List (List ℕ)
pieces_of_findings findings = finding_pieces (finding_pairs findings)

piece_first :
    (f : Finding) (findings : List Finding)
    → pieces_of_findings (f ∷ findings) ≡ as_line (finding_line (f.condition, f.place)) ∷ pieces_of_findings findings
unfolding finding_pieces
piece_first f findings = refl

pub piece_none : pieces_of_findings [] ≡ []
unfolding finding_pieces
piece_none = refl

pub piece_at :
    (findings : List Finding) (i : ℕ) (d : Finding)
    → i < length findings
    → pieces_of_findings (drop i findings) ≡ as_line (finding_line ((get_or findings i d).condition, (get_or findings i d).place)) ∷ pieces_of_findings (drop (i + 1) findings)
piece_at findings i d inside =
    at_drop_more pieces_of_findings findings i d inside ∙ piece_first (get_or findings i d) (drop (i + 1) findings)

-- the pieces by whether there are findings
pub pieces_of_none : (findings : List Finding) → length findings ≡ 0 → audit_pieces (finding_pairs findings) ≡ yes_line ∷ []
pieces_of_none [] none = refl
pieces_of_none (f ∷ findings) none = absurd (omega (arith, none))

pub pieces_of_some :
    (findings : List Finding) → 0 < length findings → audit_pieces (finding_pairs findings) ≡ pieces_of_findings findings
pieces_of_some [] some = absurd (omega arith)
pieces_of_some (f ∷ findings) some = refl

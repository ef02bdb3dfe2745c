-- If a text begins with `audit yes`, nothing was found.
use Rattle.std.proofs.Common.{◌≡◌, ℕ, List, [], ◌∷◌, ◌++◌, refl, ap, arith, get_or}
use Rattle.cmd_image.specs.AuditText.{yes_line, finding_line, finding_pieces, audit_text}

-- With a finding the text of the audit does not begin with `audit yes`.
found_no :
    (f : ℕ × ℕ) (findings : List (ℕ × ℕ)) (more rest : List ℕ) → audit_text (f ∷ findings) ++ more ≡ yes_line ++ rest → ⊥
unfolding finding_pieces finding_line
found_no f findings more rest e =
    let n : 110 ≡ 121 = ap (λ (t : List ℕ). get_or t 6 0) e in
    absurd (omega (arith, n))

pub none_found :
    (findings : List (ℕ × ℕ)) (more rest : List ℕ) → audit_text findings ++ more ≡ yes_line ++ rest → findings ≡ []
none_found [] more rest e = refl
none_found (f ∷ findings) more rest e = absurd (found_no f findings more rest e)

-- A list of findings from its parts, and an empty one.
use Rattle.std.proofs.Common.{◌≡◌, ℕ, refl, ◌∙◌, ap, subst}
use Rattle.std.specs.Prelude.{List, [], ◌∷◌, ◌++◌, ◌↔◌}
use Rattle.m36_desc.specs.Fields.{DbrFields}
use Rattle.m36_model.specs.Audit.{AreFindings, IsAudited}
use Rattle.m36_isol.specs.Findings.{FindingsLaw}
use Rattle.m36_audit.specs.declared.verdict.Finding.{Finding}
use Rattle.m36_audit.specs.Findings.{finding_pairs}

next : (now before part all : List (ℕ × ℕ)) → now ≡ before ++ part → before ≡ all → now ≡ all ++ part
next now before part all e f = e ∙ ap (λ (l : List (ℕ × ℕ)). l ++ part) f

-- six findings in order
pub six_notes : (none first second third fourth fifth sixth a b c d e g : List (ℕ × ℕ)) → none ≡ [] → first ≡ none ++ a → second ≡ first ++ b → third ≡ second ++ c → fourth ≡ third ++ d → fifth ≡ fourth ++ e → sixth ≡ fifth ++ g → sixth ≡ a ++ b ++ c ++ d ++ e ++ g
six_notes none first second third fourth fifth sixth a b c d e g h h1 h2 h3 h4 h5 h6 =
    next sixth fifth g (a ++ b ++ c ++ d ++ e) h6 (next fifth fourth e (a ++ b ++ c ++ d) h5 (next fourth third d (a ++ b ++ c) h4 (next third second c (a ++ b) h3 (next second first b a h2 (h1 ∙ ap (λ (l : List (ℕ × ℕ)). l ++ a) h)))))

no_pairs : (findings : List Finding) → finding_pairs findings ≡ [] → findings ≡ []
no_pairs [] h = refl
no_pairs (f ∷ rest) h = cc

-- there are no findings exactly if all six conditions hold
pub nothing_found : FindingsLaw → (core : List ℕ) (dbr : DbrFields) (findings : List Finding) → AreFindings core dbr (finding_pairs findings) → (findings ≡ []) ↔ IsAudited core dbr
nothing_found law core dbr findings f = (
  λ none. law.sound core dbr (subst (λ (l : List (ℕ × ℕ)). AreFindings core dbr l) (ap finding_pairs none) f),
  λ audited. no_pairs findings (law.complete core dbr (finding_pairs findings) audited f),
)

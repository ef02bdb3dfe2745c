-- Whether there are findings.
use Rattle.std.proofs.Common.{◌≡◌, ◌<◌, true, false, List, [], ◌∷◌, length, refl, arith}
use Rattle.m36_audit.specs.Findings.{finding_pairs}
use Rattle.m36_audit.specs.declared.verdict.Finding.{Finding}
use Rattle.cmd_image.specs.ImageAudit.{passes}

-- An audit passes exactly if there are no findings.
pub passes_none : (findings : List Finding) → length findings ≡ 0 → passes (finding_pairs findings) ≡ true
passes_none [] none = refl
passes_none (f ∷ findings) none = absurd (omega (arith, none))

pub passes_some : (findings : List Finding) → 0 < length findings → passes (finding_pairs findings) ≡ false
passes_some [] some = absurd (omega arith)
passes_some (f ∷ findings) some = refl

pub ruleset passing = (passes_none, passes_some)

pub none_of : (findings : List Finding) → finding_pairs findings ≡ [] → findings ≡ []
none_of [] e = refl
none_of (f ∷ findings) e = absurd (cc)

-- The findings of an audit: there are none exactly if all conditions hold, and there is only one
-- list of them.
use Rattle.std.proofs.Common.{◌≡◌, refl, sym, ◌∙◌, ap, subst, le_antisymm}
use Rattle.std.specs.Prelude.{ℕ, List, [], ◌∷◌, ◌++◌, Option, Some, None}
use Rattle.m36_desc.specs.Fields.{DbrFields}
use Rattle.m36_model.specs.Audit.{Finds, numbered_finding, AreFindings, IsAudited}
use Rattle.m36_isol.specs.Findings.{FindingsLaw}

-- the finding of one condition is determined
pub same_find : (Breaks : ℕ → Type 0) (x y : Option ℕ) → Finds Breaks x → Finds Breaks y → x ≡ y
same_find Breaks None None h k = refl
same_find Breaks None (Some p) h k = absurd (h p k.0)
same_find Breaks (Some p) None h k = absurd (k p h.0)
same_find Breaks (Some p) (Some q) h k = ap (λ (n : ℕ). Some n) (le_antisymm (h.1 q k.0) (k.1 p h.0))

pub holds : (Breaks : ℕ → Type 0) (x : Option ℕ) → x ≡ None → Finds Breaks x → (p : ℕ) → Breaks p → ⊥
holds Breaks x e h = subst (Finds Breaks) e h

-- if nothing is listed for a condition, it has no finding
noted_none : (n : ℕ) (x : Option ℕ) → [] ≡ numbered_finding n x → x ≡ None
noted_none n None h = refl
noted_none n (Some p) h = cc

none_last : (before : List (ℕ × ℕ)) (n : ℕ) (x : Option ℕ) → [] ≡ before ++ numbered_finding n x → ([] ≡ before) × (x ≡ None)
none_last [] n x h = (refl, noted_none n x h)
none_last (y ∷ before) n x h = cc

all_none : (a b c d e g : Option ℕ) → [] ≡ numbered_finding 1 a ++ numbered_finding 2 b ++ numbered_finding 3 c ++ numbered_finding 4 d ++ numbered_finding 5 e ++ numbered_finding 6 g → (a ≡ None) × (b ≡ None) × (c ≡ None) × (d ≡ None) × (e ≡ None) × (g ≡ None)
all_none a b c d e g h =
    let sixth = none_last (numbered_finding 1 a ++ numbered_finding 2 b ++ numbered_finding 3 c ++ numbered_finding 4 d ++ numbered_finding 5 e) 6 g h in
    let fifth = none_last (numbered_finding 1 a ++ numbered_finding 2 b ++ numbered_finding 3 c ++ numbered_finding 4 d) 5 e sixth.0 in
    let fourth = none_last (numbered_finding 1 a ++ numbered_finding 2 b ++ numbered_finding 3 c) 4 d fifth.0 in
    let third = none_last (numbered_finding 1 a ++ numbered_finding 2 b) 3 c fourth.0 in
    let second = none_last (numbered_finding 1 a) 2 b third.0 in
    (noted_none 1 a second.0, second.1, third.1, fourth.1, fifth.1, sixth.1)

sound_law : (core : List ℕ) (dbr : DbrFields) → AreFindings core dbr [] → IsAudited core dbr
sound_law core dbr f =
    let k = all_none f.first f.second f.third f.fourth f.fifth f.sixth f.listed in
    record {
      first = holds _ f.first k.0 f.finds_first;
      second = holds _ f.second k.1 f.finds_second;
      third = holds _ f.third k.2 f.finds_third;
      fourth = holds _ f.fourth k.3 f.finds_fourth;
      fifth = holds _ f.fifth k.4 f.finds_fifth;
      sixth = holds _ f.sixth k.5 f.finds_sixth;
    }

unique_law : (core : List ℕ) (dbr : DbrFields) (findings others : List (ℕ × ℕ)) → AreFindings core dbr findings → AreFindings core dbr others → findings ≡ others
unique_law core dbr findings others f g =
    let first = same_find _ f.first g.first f.finds_first g.finds_first in
    let second = same_find _ f.second g.second f.finds_second g.finds_second in
    let third = same_find _ f.third g.third f.finds_third g.finds_third in
    let fourth = same_find _ f.fourth g.fourth f.finds_fourth g.finds_fourth in
    let fifth = same_find _ f.fifth g.fifth f.finds_fifth g.finds_fifth in
    let sixth = same_find _ f.sixth g.sixth f.finds_sixth g.finds_sixth in
    let same : numbered_finding 1 f.first ++ numbered_finding 2 f.second ++ numbered_finding 3 f.third ++ numbered_finding 4 f.fourth ++ numbered_finding 5 f.fifth ++ numbered_finding 6 f.sixth ≡ numbered_finding 1 g.first ++ numbered_finding 2 g.second ++ numbered_finding 3 g.third ++ numbered_finding 4 g.fourth ++ numbered_finding 5 g.fifth ++ numbered_finding 6 g.sixth = λ i. numbered_finding 1 (first i) ++ numbered_finding 2 (second i) ++ numbered_finding 3 (third i) ++ numbered_finding 4 (fourth i) ++ numbered_finding 5 (fifth i) ++ numbered_finding 6 (sixth i) in
    f.listed ∙ same ∙ sym g.listed

pub none_found : (core : List ℕ) (dbr : DbrFields) → IsAudited core dbr → AreFindings core dbr []
none_found core dbr audited =
    record {
      first = None;
      finds_first = audited.first;
      second = None;
      finds_second = audited.second;
      third = None;
      finds_third = audited.third;
      fourth = None;
      finds_fourth = audited.fourth;
      fifth = None;
      finds_fifth = audited.fifth;
      sixth = None;
      finds_sixth = audited.sixth;
      listed = refl;
    }

pub findings_law : FindingsLaw
findings_law =
    record {
      sound = sound_law;
      complete = λ core dbr findings audited f. unique_law core dbr findings [] f (none_found core dbr audited);
      unique = unique_law;
    }

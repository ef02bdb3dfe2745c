-- The findings of a joint audit: there are none exactly if all conditions hold, and there is only
-- one list of them.
use Rattle.std.proofs.Common.{◌≡◌, refl, sym, ◌∙◌, subst}
use Rattle.std.specs.Prelude.{ℕ, zero, suc, ◌+◌, List, [], ◌∷◌, ◌++◌, slice_get, Option, Some, None}
use Rattle.m36_desc.specs.Fields.{DbrFields}
use Rattle.m36_model.specs.Audit.{AreFindings, IsAudited}
use Rattle.m36_model.specs.JointAudit.{IsJointlyAudited, JointFindingFields, findings_of_process, joint_finding, AreFindingsFrom, AreJointFindings}
use Rattle.m36_isol.specs.Findings.{JointFindingsLaw}
use Rattle.m36_isol.proofs.Findings.{same_find, holds, none_found, findings_law}

none_first : (xs ys : List JointFindingFields) → [] ≡ xs ++ ys → ([] ≡ xs) × ([] ≡ ys)
none_first [] ys h = (refl, h)
none_first (x ∷ xs) ys h = cc

none_between : (n : ℕ) (x : Option ℕ) → [] ≡ joint_finding n x → x ≡ None
none_between n None h = refl
none_between n (Some p) h = cc

none_of_process : (i : ℕ) (findings : List (ℕ × ℕ)) → [] ≡ findings_of_process i findings → findings ≡ []
none_of_process i [] h = refl
none_of_process i (f ∷ findings) h = cc

-- if there are no findings, the conditions of each process hold
sound_from : (i : ℕ) (core : List ℕ) (dbrs : List DbrFields) → AreFindingsFrom i core dbrs [] → (k : ℕ) (dbr : DbrFields) → slice_get dbrs k ≡ Some dbr → IsAudited core dbr
sound_from i core [] f k dbr at = cc
sound_from i core (d ∷ dbrs) f zero dbr at =
    let parts = none_first _ _ f.2.2 in
    let own : AreFindings core d [] = subst (AreFindings core d) (none_of_process i f.0 parts.0) f.1 in
    let same : d ≡ dbr = cc in
    subst (IsAudited core) same (findings_law.sound core d own)
sound_from i core (d ∷ dbrs) f (suc k) dbr at =
    let parts = none_first _ _ f.2.2 in
    sound_from (i + 1) core dbrs (subst (AreFindingsFrom (i + 1) core dbrs) (sym parts.1) f.2.1) k dbr at

unique_from : (i : ℕ) (core : List ℕ) (dbrs : List DbrFields) (xs ys : List JointFindingFields) → AreFindingsFrom i core dbrs xs → AreFindingsFrom i core dbrs ys → xs ≡ ys
unique_from i core [] xs ys f g = f ∙ sym g
unique_from i core (d ∷ dbrs) xs ys f g =
    let own = findings_law.unique core d f.0 g.0 f.1 g.1 in
    let rest = unique_from (i + 1) core dbrs f.2.0 g.2.0 f.2.1 g.2.1 in
    let same : findings_of_process i f.0 ++ f.2.0 ≡ findings_of_process i g.0 ++ g.2.0 = λ k. findings_of_process i (own k) ++ rest k in
    f.2.2 ∙ same ∙ sym g.2.2

complete_from : (i : ℕ) (core : List ℕ) (dbrs : List DbrFields) → ((k : ℕ) (dbr : DbrFields) → slice_get dbrs k ≡ Some dbr → IsAudited core dbr) → AreFindingsFrom i core dbrs []
complete_from i core [] each = refl
complete_from i core (d ∷ dbrs) each =
    ([], none_found core d (each 0 d refl), ([], complete_from (i + 1) core dbrs (λ k dbr at. each (suc k) dbr at), refl))

sound_law : (core : List ℕ) (dbrs : List DbrFields) → AreJointFindings core dbrs [] → IsJointlyAudited core dbrs
sound_law core dbrs f =
    let last = none_first (f.own ++ joint_finding 2 f.second) (joint_finding 3 f.third) f.listed in
    let first = none_first f.own (joint_finding 2 f.second) last.0 in
    record {
      each = sound_from 0 core dbrs (subst (AreFindingsFrom 0 core dbrs) (sym first.0) f.finds_own);
      tables = holds _ f.second (none_between 2 f.second first.1) f.finds_second;
      segments = holds _ f.third (none_between 3 f.third last.1) f.finds_third;
    }

unique_law : (core : List ℕ) (dbrs : List DbrFields) (xs ys : List JointFindingFields) → AreJointFindings core dbrs xs → AreJointFindings core dbrs ys → xs ≡ ys
unique_law core dbrs xs ys f g =
    let own = unique_from 0 core dbrs f.own g.own f.finds_own g.finds_own in
    let second = same_find _ f.second g.second f.finds_second g.finds_second in
    let third = same_find _ f.third g.third f.finds_third g.finds_third in
    let same : f.own ++ joint_finding 2 f.second ++ joint_finding 3 f.third ≡ g.own ++ joint_finding 2 g.second ++ joint_finding 3 g.third = λ k. own k ++ joint_finding 2 (second k) ++ joint_finding 3 (third k) in
    f.listed ∙ same ∙ sym g.listed

nothing_found : (core : List ℕ) (dbrs : List DbrFields) → IsJointlyAudited core dbrs → AreJointFindings core dbrs []
nothing_found core dbrs audited =
    record {
      own = [];
      finds_own = complete_from 0 core dbrs audited.each;
      second = None;
      finds_second = audited.tables;
      third = None;
      finds_third = audited.segments;
      listed = refl;
    }

pub joint_findings_law : JointFindingsLaw
joint_findings_law =
    record {
      sound = sound_law;
      complete = λ core dbrs findings audited f. unique_law core dbrs findings [] f (nothing_found core dbrs audited);
      unique = unique_law;
    }

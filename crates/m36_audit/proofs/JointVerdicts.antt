-- The findings of processes in order, and what is recorded for core words after one more process.
use Rattle.std.proofs.Common.{◌≡◌, ℕ, zero, suc, ◌+◌, ◌≤◌, ◌<◌, length, refl, sym, ◌∙◌, ap, subst, inl, inr, arith, get_or}
use Rattle.std.specs.Prelude.{◌⊎◌, List, [], ◌∷◌, ◌++◌, ◌↔◌, drop, slice_get, slice_index, replicate, Some, None}
use Rattle.std.proofs.lemmas.Bool.{cases_lt}
use Rattle.std.proofs.lemmas.List.{append_assoc, append-nil, length-replicate}
use Rattle.std.proofs.Math.ListN.{drop_of_length-le}
use Rattle.std.proofs.lemmas.Option.{slice_get_cases}
use Rattle.m36_desc.specs.Fields.{DbrFields}
use Rattle.m36_model.specs.Audit.{AreFindings}
use Rattle.m36_model.specs.JointAudit.{JointFindingFields, findings_of_process, AreFindingsFrom, AreJointFindings, IsJointlyAudited}
use Rattle.m36_isol.specs.Findings.{JointFindingsLaw}
use Rattle.m36_audit.specs.declared.joint_verdict.JointFinding.{JointFinding}
use Rattle.m36_audit.specs.RecordedNumbers.{AreRecorded}
use Rattle.m36_audit.specs.WordOwners.{IsOfProcessBelow, OwnsTableWord, OwnsSegmentWord, HasTableNumbered}
use Rattle.m36_audit.specs.Joints.{all_found, AreWordOwners, AreFindingsOfFirst}
use Rattle.m36_audit.proofs.TableWords.{zeros}

drop_at : (dbrs : List DbrFields) (n : ℕ) (dbr : DbrFields) → slice_get dbrs n ≡ Some dbr → drop n dbrs ≡ dbr ∷ drop (suc n) dbrs
drop_at [] n dbr h = cc
drop_at (d ∷ dbrs) zero dbr h = let same : d ≡ dbr = cc in ap (λ (x : DbrFields). x ∷ dbrs) same
drop_at (d ∷ dbrs) (suc n) dbr h = drop_at dbrs n dbr h

-- the findings of no process
pub found_none : (core : List ℕ) (dbrs : List DbrFields) (findings : List JointFinding) → findings ≡ [] → AreFindingsOfFirst core dbrs 0 findings
found_none core dbrs findings e =
    record { whole = λ rest f. subst (λ (l : List JointFinding). AreFindingsFrom 0 core dbrs (all_found l ++ rest)) (sym e) f }

-- the findings of one more process
pub found_next : (core : List ℕ) (dbrs : List DbrFields) (n : ℕ) (dbr : DbrFields) (findings after : List JointFinding) (own : List (ℕ × ℕ)) → slice_get dbrs n ≡ Some dbr → AreFindings core dbr own → all_found after ≡ all_found findings ++ findings_of_process n own → AreFindingsOfFirst core dbrs n findings → AreFindingsOfFirst core dbrs (n + 1) after
found_next core dbrs n dbr findings after own process found listed before =
    record { whole = whole }
  where
    whole : (rest : List JointFindingFields) → AreFindingsFrom (n + 1) core (drop (n + 1) dbrs) rest → AreFindingsFrom 0 core dbrs (all_found after ++ rest)
    whole rest f =
        let next : n + 1 ≡ suc n = omega arith in
        let there : drop n dbrs ≡ dbr ∷ drop (n + 1) dbrs = drop_at dbrs n dbr process ∙ ap (λ (m : ℕ). dbr ∷ drop m dbrs) (sym next) in
        let here : AreFindingsFrom n core (dbr ∷ drop (n + 1) dbrs) (findings_of_process n own ++ rest) = (own, found, (rest, f, refl)) in
        let all = before.whole (findings_of_process n own ++ rest) (subst (λ (l : List DbrFields). AreFindingsFrom n core l (findings_of_process n own ++ rest)) (sym there) here) in
        let same : all_found findings ++ (findings_of_process n own ++ rest) ≡ all_found after ++ rest = sym (append_assoc (all_found findings) (findings_of_process n own) rest) ∙ ap (λ (l : List JointFindingFields). l ++ rest) (sym listed) in
        subst (AreFindingsFrom 0 core dbrs) same all

-- the findings of all processes
pub found_all : (core : List ℕ) (dbrs : List DbrFields) (n : ℕ) (findings : List JointFinding) → length dbrs ≤ n → n ≤ length dbrs → AreFindingsOfFirst core dbrs n findings → AreFindingsFrom 0 core dbrs (all_found findings)
found_all core dbrs n findings enough few f =
    let none : drop n dbrs ≡ [] = drop_of_length-le dbrs enough in
    let nothing : AreFindingsFrom n core [] [] = refl in
    subst (AreFindingsFrom 0 core dbrs) (append-nil (all_found findings)) (f.whole [] (subst (λ (l : List DbrFields). AreFindingsFrom n core l []) (sym none) nothing))

no_findings : (findings : List JointFinding) → all_found findings ≡ [] → findings ≡ []
no_findings [] h = refl
no_findings (f ∷ findings) h = cc

-- there are no findings exactly if all conditions hold
pub nothing_joint : JointFindingsLaw → (core : List ℕ) (dbrs : List DbrFields) (findings : List JointFinding) → AreJointFindings core dbrs (all_found findings) → (findings ≡ []) ↔ IsJointlyAudited core dbrs
nothing_joint law core dbrs findings f = (
  λ none. law.sound core dbrs (subst (λ (l : List JointFindingFields). AreJointFindings core dbrs l) (ap all_found none) f),
  λ audited. no_findings findings (law.complete core dbrs (all_found findings) audited f),
)

none_told : (Has : ℕ → ℕ → ℕ → Type 0) (size : ℕ) (values : List ℕ) → values ≡ replicate size 0 → AreRecorded (IsOfProcessBelow Has 0) size values
none_told Has size values e =
    record {
      len = ap length e ∙ length-replicate {A = ℕ} size 0;
      each = λ a inside. record {
        only = λ apart x b. let lt = b.1 in absurd (omega arith);
        one = λ apart some. absurd (some (zero_at a));
        two = λ h. let is = zero_at a in absurd (omega arith);
      };
    }
  where
    zero_at : (a : ℕ) → slice_index values a ≡ 0
    zero_at a = ap (λ (l : List ℕ). slice_index l a) e ∙ zeros size a (cases_lt a size)

-- no process is recorded yet
pub no_shares : (core : List ℕ) (dbrs : List DbrFields) (firsts : List ℕ) (size : ℕ) (tables segments identities : List ℕ) → size ≡ length core → tables ≡ replicate size 0 → segments ≡ replicate size 0 → identities ≡ replicate size 0 → AreWordOwners core dbrs firsts 0 tables segments identities
no_shares core dbrs firsts size tables segments identities is e f g =
    record {
      of_tables = none_told (OwnsTableWord core dbrs) (length core) tables (e ∙ ap (λ (n : ℕ). replicate n 0) is);
      of_segments = none_told (OwnsSegmentWord core dbrs) (length core) segments (f ∙ ap (λ (n : ℕ). replicate n 0) is);
      of_identities = none_told (HasTableNumbered core dbrs firsts) (length core) identities (g ∙ ap (λ (n : ℕ). replicate n 0) is);
    }

pub zeros_len : (size : ℕ) (values : List ℕ) (n : ℕ) → values ≡ replicate size 0 → size ≡ n → length values ≡ n
zeros_len size values n e f = ap length e ∙ length-replicate {A = ℕ} size 0 ∙ f

pub found_step : (core : List ℕ) (dbrs : List DbrFields) (n : ℕ) (findings after : List JointFinding) (own : List (ℕ × ℕ)) → n < length dbrs → ((dbr : DbrFields) → slice_get dbrs n ≡ Some dbr → AreFindings core dbr own) → all_found after ≡ all_found findings ++ findings_of_process n own → AreFindingsOfFirst core dbrs n findings → AreFindingsOfFirst core dbrs (n + 1) after
found_step core dbrs n findings after own lt found listed before = at (slice_get_cases dbrs n).1
  where
    at : ((x : DbrFields) × (n < length dbrs) × (slice_get dbrs n ≡ Some x) × (get_or dbrs n x ≡ x)) ⊎ ((length dbrs ≤ n) × (slice_get dbrs n ≡ None)) → AreFindingsOfFirst core dbrs (n + 1) after
    at (inl h) = found_next core dbrs n h.0 findings after own h.2 (found h.0 h.2) listed before
    at (inr h) = let past = h.0 in absurd (omega arith)

pub one_dbr : (dbrs : List DbrFields) (k : ℕ) (dbr other : DbrFields) → slice_get dbrs k ≡ Some dbr → slice_get dbrs k ≡ Some other → dbr ≡ other
one_dbr dbrs k dbr other e f = cc

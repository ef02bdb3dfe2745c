-- The meaning of the findings of an audit.
use Rattle.std.specs.Prelude.{◌≡◌, ℕ, List, []}
use Rattle.m36_desc.specs.Fields.{DbrFields}
use Rattle.m36_model.specs.Audit.{AreFindings, IsAudited}
use Rattle.m36_model.specs.JointAudit.{JointFindingFields, AreJointFindings, IsJointlyAudited}

-- An audit finds nothing exactly if all six conditions hold, and there is only one list of
-- findings.
pub record FindingsLaw : Type 0 where
  pub sound : (core : List ℕ) (dbr : DbrFields) → AreFindings core dbr [] → IsAudited core dbr
  pub complete :
      (core : List ℕ) (dbr : DbrFields) (findings : List (ℕ × ℕ)) → IsAudited core dbr
      → AreFindings core dbr findings → findings ≡ []
  pub unique :
      (core : List ℕ) (dbr : DbrFields) (findings others : List (ℕ × ℕ))
      → AreFindings core dbr findings → AreFindings core dbr others → findings ≡ others

-- A joint audit finds nothing exactly if all conditions hold, and there is only one list of
-- findings.
pub record JointFindingsLaw : Type 0 where
  pub sound :
      (core : List ℕ) (dbrs : List DbrFields) → AreJointFindings core dbrs []
      → IsJointlyAudited core dbrs
  pub complete :
      (core : List ℕ) (dbrs : List DbrFields) (findings : List JointFindingFields)
      → IsJointlyAudited core dbrs
      → AreJointFindings core dbrs findings → findings ≡ []
  pub unique :
      (core : List ℕ) (dbrs : List DbrFields) (findings others : List JointFindingFields)
      → AreJointFindings core dbrs findings → AreJointFindings core dbrs others → findings ≡ others

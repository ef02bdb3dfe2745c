-- The joint audit of several processes on one core: the six conditions of each process, and two
-- conditions between processes.
use Rattle.std.specs.Prelude.{◌≡◌, ◌≢◌, ℕ, ◌+◌, ◌<◌, ◌⊎◌, List, [], ◌∷◌, ◌++◌, map, length}
use Rattle.std.specs.Prelude.{slice_get, Option, Some, None, Ok}
use Rattle.m36_desc.specs.Fields.{DbrFields}
use Rattle.m36_model.specs.Place.{wrapped_address, sdw_place}
use Rattle.m36_model.specs.Audit.{Table, Sdws, Directory, Pages, IsWordOfTable, IsSegmentWord}
use Rattle.m36_model.specs.Audit.{IsAudited}
use Rattle.m36_model.specs.Audit.{Finds, numbered_finding, AreFindings}

-- the most processes of a joint audit
abbrev pub most_processes : ℕ
most_processes = 8

-- two segments of two processes are the same segment: their descriptors are equal words
pub record AreSame (core : List ℕ) (dbr other : DbrFields) (seg other_seg : ℕ) : Type 0 where
  pub at : ℕ
  pub other_at : ℕ
  pub found : sdw_place core dbr seg ≡ Ok at
  pub other_found : sdw_place core other other_seg ≡ Ok other_at
  pub even : slice_get core at ≡ slice_get core other_at
  pub odd : slice_get core (wrapped_address (at + 1))
      ≡ slice_get core (wrapped_address (other_at + 1))

-- Two processes may share a word of these two tables: they are the page tables of the same segment.
-- (Its descriptors are equal, so a word at one address is for the same page.)
abbrev pub AreShared : List ℕ → DbrFields → DbrFields → Table → Table → Type 0
AreShared core dbr other (Pages seg) (Pages other_seg) = AreSame core dbr other seg other_seg
AreShared core dbr other (Pages seg) Sdws = ⊥
AreShared core dbr other (Pages seg) Directory = ⊥
AreShared core dbr other Sdws table = ⊥
AreShared core dbr other Directory table = ⊥

-- two different processes of the list
pub record AreTwo (dbrs : List DbrFields) (dbr other : DbrFields) : Type 0 where
  pub first : ℕ
  pub second : ℕ
  pub at : slice_get dbrs first ≡ Some dbr
  pub other_at : slice_get dbrs second ≡ Some other
  pub differ : first ≢ second

-- a table word of one process is a segment word of another, or a table word of it that is not
-- shared
abbrev pub IsUsedByOther : List ℕ → DbrFields → DbrFields → Table → ℕ → Type 0
IsUsedByOther core dbr other table a =
    ((seg : ℕ) × (w : ℕ) × IsSegmentWord core other seg w a) ⊎
    ((other_table : Table) × IsWordOfTable core other other_table a ×
    (AreShared core dbr other table other_table → ⊥))

-- No table word of one process is a table word or a segment word of another, except in shared page
-- tables. A core word breaks it.
pub record IsJointTable (core : List ℕ) (dbrs : List DbrFields) (a : ℕ) : Type 0 where
  pub inside : a < length core
  pub dbr : DbrFields
  pub other : DbrFields
  pub two : AreTwo dbrs dbr other
  pub table : Table
  pub of : IsWordOfTable core dbr table a
  pub taken : IsUsedByOther core dbr other table a

-- two words of segments are the same word of the same segment
pub record AreSameWord (core : List ℕ) (dbr other : DbrFields)
    (seg w other_seg other_w : ℕ) : Type 0 where
  pub segment : AreSame core dbr other seg other_seg
  pub word : w ≡ other_w

-- No segment word of one process is at the core address of one of another, unless they are the same
-- word of the same segment. A core word breaks it.
pub record IsJointSegment (core : List ℕ) (dbrs : List DbrFields) (a : ℕ) : Type 0 where
  pub dbr : DbrFields
  pub other : DbrFields
  pub two : AreTwo dbrs dbr other
  pub seg : ℕ
  pub w : ℕ
  pub word : IsSegmentWord core dbr seg w a
  pub other_seg : ℕ
  pub other_w : ℕ
  pub other_word : IsSegmentWord core other other_seg other_w a
  pub differ : AreSameWord core dbr other seg w other_seg other_w → ⊥

-- all conditions hold
pub record IsJointlyAudited (core : List ℕ) (dbrs : List DbrFields) : Type 0 where
  pub each : (i : ℕ) (dbr : DbrFields) → slice_get dbrs i ≡ Some dbr → IsAudited core dbr
  pub tables : (a : ℕ) → IsJointTable core dbrs a → ⊥
  pub segments : (a : ℕ) → IsJointSegment core dbrs a → ⊥

-- a finding: the number of the process, if it is of one, the number of the condition, and the place
pub record JointFindingFields : Type 0 where
  pub process : Option ℕ
  pub condition : ℕ
  pub place : ℕ

-- findings of an audit as joint findings, of a process or of none
abbrev pub as_joint_findings : Option ℕ → List (ℕ × ℕ) → List JointFindingFields
as_joint_findings process findings =
    map (λ f. record { process = process; condition = f.0; place = f.1 }) findings

-- findings of the audit of process i as joint findings
abbrev pub findings_of_process : ℕ → List (ℕ × ℕ) → List JointFindingFields
findings_of_process i findings = as_joint_findings (Some i) findings

-- the finding of a condition between processes as a list of one; an empty list if the condition
-- holds
abbrev pub joint_finding : ℕ → Option ℕ → List JointFindingFields
joint_finding condition place = as_joint_findings None (numbered_finding condition place)

-- the findings of the processes from number i on, in order
abbrev pub AreFindingsFrom : ℕ → List ℕ → List DbrFields → List JointFindingFields → Type 0
AreFindingsFrom i core [] findings = findings ≡ []
AreFindingsFrom i core (dbr ∷ dbrs) findings =
    (own : List (ℕ × ℕ)) × AreFindings core dbr own ×
    ((rest : List JointFindingFields) × AreFindingsFrom (i + 1) core dbrs rest ×
    (findings ≡ findings_of_process i own ++ rest))

-- the findings of a joint audit: those of each process in order, and one for each of the two
-- conditions between processes that fails
pub record AreJointFindings (core : List ℕ) (dbrs : List DbrFields)
    (findings : List JointFindingFields) : Type 0 where
  pub own : List JointFindingFields
  pub finds_own : AreFindingsFrom 0 core dbrs own
  pub second : Option ℕ
  pub finds_second : Finds (IsJointTable core dbrs) second
  pub third : Option ℕ
  pub finds_third : Finds (IsJointSegment core dbrs) third
  pub listed : findings ≡ own ++ joint_finding 2 second ++ joint_finding 3 third

-- The findings of a joint audit, in the form that `m36_model` uses.
use Rattle.std.specs.Prelude.{ℕ, List, ◌++◌, map, drop, length}
use Rattle.m36_desc.specs.Fields.{DbrFields}
use Rattle.m36_model.specs.JointAudit.{JointFindingFields, AreFindingsFrom}
use Rattle.m36_audit.specs.RecordedNumbers.{AreRecorded}
use Rattle.m36_audit.specs.WordOwners.{IsOfProcessBelow, OwnsTableWord, OwnsSegmentWord}
use Rattle.m36_audit.specs.WordOwners.{HasTableNumbered}
use Rattle.m36_audit.specs.declared.joint_verdict.JointFinding.{JointFinding}

-- a finding of a joint audit, in the form that `m36_model` uses
abbrev pub found_of : JointFinding → JointFindingFields
found_of f = record { process = f.process; condition = f.condition; place = f.place }

-- the findings of a joint audit, in the form that `m36_model` uses
abbrev pub all_found : List JointFinding → List JointFindingFields
all_found findings = map found_of findings

-- The first n processes are recorded for the core words: which of them have a table word there,
-- which have a segment word there, and which tables these are.
pub record AreWordOwners (core : List ℕ) (dbrs : List DbrFields) (firsts : List ℕ) (n : ℕ)
    (tables segments identities : List ℕ) : Type 0 where
  pub of_tables : AreRecorded (IsOfProcessBelow (OwnsTableWord core dbrs) n) (length core) tables
  pub of_segments : AreRecorded (IsOfProcessBelow (OwnsSegmentWord core dbrs) n)
      (length core) segments
  pub of_identities : AreRecorded (IsOfProcessBelow (HasTableNumbered core dbrs firsts) n)
      (length core) identities

-- These are the findings of the first n processes: followed by the findings of the other processes,
-- they are the findings of all.
pub record AreFindingsOfFirst (core : List ℕ) (dbrs : List DbrFields) (n : ℕ)
    (findings : List JointFinding) : Type 0 where
  pub whole :
      (rest : List JointFindingFields) → AreFindingsFrom n core (drop n dbrs) rest
      → AreFindingsFrom 0 core dbrs (all_found findings ++ rest)

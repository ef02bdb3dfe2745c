-- What `procs` is defined by: the code of a refused file, the segment bases of the processes, and
-- what `audit yes` promises.
use Rattle.std.specs.Prelude.{ℕ, List, map}
use Rattle.m36_desc.specs.Fields.{DbrFields}
use Rattle.m36_model.specs.Core.{core_store, core_tables}
use Rattle.m36_model.specs.Schedule.{Processes}
use Rattle.m36_model.specs.JointAudit.{IsJointlyAudited}
use Rattle.m36_model.specs.JointIsolation.{JointlyIsolated}
use Rattle.m36_procs.specs.declared.fault.ProcsCode.{ProcsCode}
use Rattle.m36_procs.specs.declared.fault.ProcsCode.TheVariants as procs
use Rattle.m36_status.specs.declared.status.Code.{Code}
use Rattle.m36_status.specs.declared.status.Code.TheVariants as code

-- ---- reading

-- the code of a refused file (P1 or P2), as a code of the status BadFile
abbrev pub code_of : ProcsCode → Code
code_of procs.P1 = code.P1
code_of procs.P2 = code.P2

-- ---- the joint audit

-- the descriptor segment base register of each process
abbrev pub dbrs_of : Processes (List ℕ) → List DbrFields
dbrs_of s = map (λ g. g.dbr) s.regs

-- every schedule of the processes is isolated in each ring from 1
pub record SchedulesAreIsolated (s : Processes (List ℕ)) : Type 0 where
  pub isolates : JointlyIsolated core_store (map (core_tables s.store) (dbrs_of s))

-- ---- what `audit yes` promises

-- All conditions of the joint audit hold, and every schedule of the processes is isolated in each
-- ring from 1.
pub record PassesJointAudit (s : Processes (List ℕ)) : Type 0 where
  pub conditions : IsJointlyAudited s.store (dbrs_of s)
  pub isolates : SchedulesAreIsolated s

-- What `bare FILE` and `audit FILE` are defined by: the code of a refused image, whether an audit
-- passes, whether the machine is run, and what `audit yes` promises.
use Rattle.std.specs.Prelude.{ℕ, Bool, true, false, ◌||◌, List, [], ◌∷◌}
use Rattle.m36_desc.specs.Fields.{DbrFields}
use Rattle.m36_model.specs.Store.{State}
use Rattle.m36_model.specs.Core.{core_store, core_tables}
use Rattle.m36_model.specs.Audit.{IsAudited}
use Rattle.m36_model.specs.Isolation.{Isolated}
use Rattle.m36_image.specs.declared.refusal.ImageCode.{ImageCode}
use Rattle.m36_image.specs.declared.refusal.ImageCode.TheVariants as image
use Rattle.m36_status.specs.declared.status.Code.{Code}
use Rattle.m36_status.specs.declared.status.Code.TheVariants as code
use Rattle.m36_status.specs.declared.status.Status.{Status}
use Rattle.m36_status.specs.declared.status.Status.TheVariants.{Done, AuditNo}

-- ---- reading

-- the code of a refused image, as a code of the status BadFile
abbrev pub code_of : ImageCode → Code
code_of image.I1 = code.I1
code_of image.I2 = code.I2
code_of image.I3 = code.I3

-- ---- the audit

-- An audit passes if it has no findings, of whatever kind.
abbrev pub passes : {A : Type 0} → List A → Bool
passes [] = true
passes (f ∷ findings) = false

-- What was audited is run if the audit passes or `--unaudited` is given.
abbrev pub is_run_allowed : {A : Type 0} → List A → Bool → Bool
is_run_allowed findings unaudited = passes findings || unaudited

-- the status of a command that only audits, by whether the audit passes
abbrev pub audit_status : Bool → Status
audit_status true = Done
audit_status false = AuditNo

-- ---- what `audit yes` promises

-- The descriptors and page tables of a core isolate each ring from 1 to 7.
pub record IsIsolated (core : List ℕ) (dbr : DbrFields) : Type 0 where
  pub isolates : Isolated core_store (core_tables core dbr)

-- All six conditions of the audit hold, and the tables isolate each ring from 1 to 7.
pub record PassesAudit (state : State (List ℕ)) : Type 0 where
  pub conditions : IsAudited state.store state.regs.dbr
  pub isolates : IsIsolated state.store state.regs.dbr

-- How `procs FILE` ends on its processes: what it puts and which status it has, by the findings of
-- the joint audit; and which findings there are, by the conditions of the joint audit.
use Rattle.std.specs.Prelude.{ℕ, ◌≡◌, Bool, true, false, List, [], ◌∷◌, ◌++◌, Result}
use Rattle.m36_model.specs.JointAudit.{JointFindingFields, IsJointlyAudited}
use Rattle.m36_procs.specs.ProcsFields.{ProcsFields}
use Rattle.m36_procs.specs.ScheduleText.{schedule_pieces}
use Rattle.m36_world.specs.declared.event.Event.{Event}
use Rattle.m36_status.specs.declared.status.Status.{Status}
use Rattle.m36_status.specs.declared.status.Status.TheVariants.{Done}
use Rattle.m36_program.specs.Alike.{IsEnd}
use Rattle.m36_program.specs.Ended.{HasEnd}
use Rattle.m36_program.specs.Goes.{Goes}
use Rattle.cmd_image.specs.ImageAudit.{is_run_allowed, audit_status}
use Rattle.cmd_image.specs.ImageEnds.{EndsWith}
use Rattle.cmd_procs.specs.JointText.{joint_audit_pieces}
use Rattle.cmd_procs.specs.Scheduled.{dbrs_of}
use Rattle.cmd_procs.specs.ProcsProgram.{AreScheduleFindings, on_procs}

-- ---- by the findings

-- The pieces: those of the audit and, if the schedule is run, those of the whole schedule. The
-- Boolean is whether it is run.
abbrev pub procs_pieces : Bool → ProcsFields → List JointFindingFields → List (List ℕ)
procs_pieces true p findings = joint_audit_pieces findings ++ schedule_pieces p.schedule p.state
procs_pieces false p findings = joint_audit_pieces findings

-- the status: Done if the schedule is run, otherwise AuditNo
abbrev pub procs_status : Bool → Status
procs_status true = Done
procs_status false = audit_status false

-- The call put what these findings require, and has their status.
abbrev pub EndsByJointFindings : Bool → ProcsFields → List JointFindingFields → List Event
    → Result (Unit {0}) Status → Type 0
EndsByJointFindings unaudited p findings events result =
    EndsWith (procs_pieces (is_run_allowed findings unaudited) p findings)
    (procs_status (is_run_allowed findings unaudited)) events result

-- The joint audit has at least one finding. The call put what the findings require, and has their
-- status.
pub record EndsBySomeJointFindings (unaudited : Bool) (p : ProcsFields) (events : List Event)
    (result : Result (Unit {0}) Status) : Type 0 where
  pub first : JointFindingFields
  pub others : List JointFindingFields
  pub are : AreScheduleFindings p.state (first ∷ others)
  pub ends : EndsByJointFindings unaudited p (first ∷ others) events result

-- ---- the law

-- The findings of processes, and the calls of `procs` on them that end (`IsEnd`).
pub record ProcsEndLaw : Type 0 where
  -- Processes have one list of findings.
  pub one_list :
      (p : ProcsFields) (findings others : List JointFindingFields)
      → AreScheduleFindings p.state findings → AreScheduleFindings p.state others
      → findings ≡ others
  -- It is empty if all conditions of the joint audit hold, and only then.
  pub none :
      (p : ProcsFields) (findings : List JointFindingFields) → AreScheduleFindings p.state findings
      → IsJointlyAudited p.state.store (dbrs_of p.state) → findings ≡ []
  pub only :
      (p : ProcsFields) → AreScheduleFindings p.state []
      → IsJointlyAudited p.state.store (dbrs_of p.state)
  -- It is impossible that no call ends.
  pub some : (unaudited : Bool) (p : ProcsFields) → HasEnd (on_procs unaudited p)
  -- Each call that ends put the same events and has the same result.
  pub one :
      (unaudited : Bool) (p : ProcsFields) (events others : List Event)
      (result other : Result (Unit {0}) Status)
      → Goes (on_procs unaudited p) events result → IsEnd result
      → Goes (on_procs unaudited p) others other → IsEnd other
      → (events ≡ others) × (result ≡ other)
  -- If all conditions hold, it put what is required without findings.
  pub passed :
      (unaudited : Bool) (p : ProcsFields) (events : List Event)
      (result : Result (Unit {0}) Status)
      → Goes (on_procs unaudited p) events result → IsEnd result
      → IsJointlyAudited p.state.store (dbrs_of p.state)
      → EndsByJointFindings unaudited p [] events result
  -- Otherwise it put what is required by some findings.
  pub failed :
      (unaudited : Bool) (p : ProcsFields) (events : List Event)
      (result : Result (Unit {0}) Status)
      → Goes (on_procs unaudited p) events result → IsEnd result
      → ¬ IsJointlyAudited p.state.store (dbrs_of p.state)
      → EndsBySomeJointFindings unaudited p events result

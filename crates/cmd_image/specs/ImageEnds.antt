-- How `bare FILE` and `audit FILE` end on an image: what they put and which status they have, by
-- the findings of the audit; and which findings there are, by the six conditions of the audit.
use Rattle.std.specs.Prelude.{ℕ, ◌≡◌, Bool, true, false, List, [], ◌∷◌, ◌++◌, Result}
use Rattle.m36_model.specs.Store.{State}
use Rattle.m36_model.specs.Audit.{IsAudited}
use Rattle.m36_world.specs.Follow.{outputs}
use Rattle.m36_world.specs.declared.event.Event.{Event}
use Rattle.m36_status.specs.declared.status.Status.{Status}
use Rattle.m36_program.specs.Alike.{IsEnd}
use Rattle.m36_program.specs.Early.{result_of_status}
use Rattle.m36_program.specs.Ended.{HasEnd}
use Rattle.m36_program.specs.Goes.{Goes}
use Rattle.cmd_image.specs.declared.command.ImageCommand.{ImageCommand}
use Rattle.cmd_image.specs.declared.command.ImageCommand.TheVariants.{Bare, Audit}
use Rattle.cmd_image.specs.AuditText.{audit_pieces}
use Rattle.cmd_image.specs.Output.{run_pieces, status_after}
use Rattle.cmd_image.specs.ImageAudit.{passes, is_run_allowed, audit_status}
use Rattle.cmd_image.specs.Run.{run, last_outcome}
use Rattle.cmd_image.specs.ImageProgram.{AreAuditFindings, on_image}

-- ---- by the findings

-- The call put these pieces, in this order, and did nothing else. It ended with this status.
pub record EndsWith (pieces : List (List ℕ)) (status : Status) (events : List Event)
    (result : Result (Unit {0}) Status) : Type 0 where
  pub events_are : events ≡ outputs pieces
  pub result_is : result ≡ result_of_status status

-- The pieces of `bare FILE`: those of the audit and, if the machine is run, those of its run of at
-- most `steps` steps.
abbrev pub bare_pieces : Bool → ℕ → State (List ℕ) → List (ℕ × ℕ) → List (List ℕ)
bare_pieces true steps state findings = audit_pieces findings ++ run_pieces steps state
bare_pieces false steps state findings = audit_pieces findings

-- the pieces of a command
abbrev pub image_pieces : ImageCommand → State (List ℕ) → List (ℕ × ℕ) → List (List ℕ)
image_pieces (Bare bare) state findings =
    bare_pieces (is_run_allowed findings bare.unaudited) bare.steps state findings
image_pieces Audit state findings = audit_pieces findings

-- The status of `bare FILE`: that of the run, or of the audit if the machine is not run.
abbrev pub bare_status : Bool → ℕ → State (List ℕ) → List (ℕ × ℕ) → Status
bare_status true steps state findings = status_after (last_outcome (run steps state))
bare_status false steps state findings = audit_status (passes findings)

-- the status of a command
abbrev pub image_status : ImageCommand → State (List ℕ) → List (ℕ × ℕ) → Status
image_status (Bare bare) state findings =
    bare_status (is_run_allowed findings bare.unaudited) bare.steps state findings
image_status Audit state findings = audit_status (passes findings)

-- The call put what these findings require, and has their status.
abbrev pub EndsByFindings : ImageCommand → State (List ℕ) → List (ℕ × ℕ) → List Event
    → Result (Unit {0}) Status → Type 0
EndsByFindings command state findings events result =
    EndsWith (image_pieces command state findings) (image_status command state findings)
    events result

-- The audit has at least one finding. The call put what the findings require, and has their
-- status.
pub record EndsBySomeFindings (command : ImageCommand) (state : State (List ℕ))
    (events : List Event)
    (result : Result (Unit {0}) Status) : Type 0 where
  pub first : ℕ × ℕ
  pub others : List (ℕ × ℕ)
  pub are : AreAuditFindings state (first ∷ others)
  pub ends : EndsByFindings command state (first ∷ others) events result

-- ---- the law

-- The findings of an image, and the calls of a command on it that end (`IsEnd`).
pub record ImageEndLaw : Type 0 where
  -- An image has one list of findings.
  pub one_list :
      (state : State (List ℕ)) (findings others : List (ℕ × ℕ))
      → AreAuditFindings state findings → AreAuditFindings state others → findings ≡ others
  -- It is empty if all six conditions of the audit hold, and only then.
  pub none :
      (state : State (List ℕ)) (findings : List (ℕ × ℕ))
      → AreAuditFindings state findings → IsAudited state.store state.regs.dbr → findings ≡ []
  pub only :
      (state : State (List ℕ)) → AreAuditFindings state []
      → IsAudited state.store state.regs.dbr
  -- It is impossible that no call ends.
  pub some : (command : ImageCommand) (state : State (List ℕ)) → HasEnd (on_image command state)
  -- Each call that ends put the same events and has the same result.
  pub one :
      (command : ImageCommand) (state : State (List ℕ)) (events others : List Event)
      (result other : Result (Unit {0}) Status)
      → Goes (on_image command state) events result → IsEnd result
      → Goes (on_image command state) others other → IsEnd other
      → (events ≡ others) × (result ≡ other)
  -- If all six conditions hold, it put what is required without findings.
  pub passed :
      (command : ImageCommand) (state : State (List ℕ)) (events : List Event)
      (result : Result (Unit {0}) Status)
      → Goes (on_image command state) events result → IsEnd result
      → IsAudited state.store state.regs.dbr
      → EndsByFindings command state [] events result
  -- Otherwise it put what is required by some findings.
  pub failed :
      (command : ImageCommand) (state : State (List ℕ)) (events : List Event)
      (result : Result (Unit {0}) Status)
      → Goes (on_image command state) events result → IsEnd result
      → ¬ IsAudited state.store state.regs.dbr
      → EndsBySomeFindings command state events result

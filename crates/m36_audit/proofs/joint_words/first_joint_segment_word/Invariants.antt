use Rattle.std.proofs.Common.{ℕ, ◌*◌, ◌<◌, ◌^◌, length}
use Rattle.m36_model.specs.JointAudit.{IsJointSegment}
use Rattle.m36_audit.specs.Runs.{IsOpenCount}
use Rattle.m36_audit.specs.WordOwners.{joint_run}
use Rattle.m36_audit.proofs.joint_words.first_joint_segment_word.Given as goal

-- No earlier word breaks the condition.
abbrev pub invariant-loop-a : goal.invariant-loop-a
invariant-loop-a l = record {
  opened : IsOpenCount (joint_run l.core l.dbrs l.firsts.items) (2 ^ 23 * length l.dbrs) l.a l.open_runs;
  none : (q : ℕ) → q < l.a → IsJointSegment l.core l.dbrs q → ⊥;
}

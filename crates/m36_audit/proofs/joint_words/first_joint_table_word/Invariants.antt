use Rattle.std.proofs.Common.{ℕ, ◌<◌}
use Rattle.m36_model.specs.JointAudit.{IsJointTable}
use Rattle.m36_audit.proofs.joint_words.first_joint_table_word.Given as goal

-- No earlier word breaks the condition.
abbrev pub invariant-loop-a : goal.invariant-loop-a
invariant-loop-a l = (q : ℕ) → q < l.a → IsJointTable l.core l.fn.dbrs q → ⊥

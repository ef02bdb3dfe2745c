use Rattle.std.proofs.Common.{ℕ, ◌<◌, subst, below_more, length}
use Rattle.m36_model.specs.JointAudit.{IsJointTable}
use Rattle.m36_audit.proofs.Segments.{found_first, not_broken}
use Rattle.m36_audit.proofs.Conditions.{none_inside}
use Rattle.m36_audit.proofs.JointTables.{between_at, joint_table_inside}
use Rattle.m36_audit.proofs.joint_words.first_joint_table_word.Goals as goal

pub returns-then-is_joint_table_word : goal.returns-then-is_joint_table_word
returns-then-is_joint_table_word c =
    let tested = between_at c.args.core.now c.args.dbrs.now c.args.firsts.now.items c.requires.equal_descriptors c.requires.few c.loop-a.a (subst (λ (n : ℕ). c.loop-a.a < n) c.len-a-end.ensures.value c.loop-a-test.true) c.args.tables.now.values.items c.args.segments.now.values.items c.args.identities.now.values.items c.requires.tables c.requires.segments c.requires.identities c.at.result c.at-in-loop-a.result c.at-in-loop-a-2.result c.is_joint_table_word.result c.at.ensures c.at-in-loop-a.ensures c.at-in-loop-a-2.ensures c.is_joint_table_word.ensures in
    found_first (IsJointTable c.args.core.now c.args.dbrs.now) c.loop-a.a (tested.0 c.if-is_joint_table_word.true) c.loop-a.invariant

pub loop-a-preserved : goal.loop-a-preserved
loop-a-preserved c =
    let tested = between_at c.args.core.now c.args.dbrs.now c.args.firsts.now.items c.requires.equal_descriptors c.requires.few c.loop-a.a (subst (λ (n : ℕ). c.loop-a.a < n) c.len-a-end.ensures.value c.loop-a-test.true) c.args.tables.now.values.items c.args.segments.now.values.items c.args.identities.now.values.items c.requires.tables c.requires.segments c.requires.identities c.at.result c.at-in-loop-a.result c.at-in-loop-a-2.result c.is_joint_table_word.result c.at.ensures c.at-in-loop-a.ensures c.at-in-loop-a-2.ensures c.is_joint_table_word.ensures in
    below_more _ _ c.loop-a.invariant (not_broken (IsJointTable c.args.core.now c.args.dbrs.now c.loop-a.a) c.is_joint_table_word.result tested c.if-is_joint_table_word.false)

pub returns : goal.returns
returns c =
    none_inside (IsJointTable c.args.core.now c.args.dbrs.now) (length c.args.core.now) c.len-a-end.result c.loop-a.a c.len-a-end.ensures.value c.loop-a-test.false (joint_table_inside c.args.core.now c.args.dbrs.now) c.loop-a.invariant

use Rattle.std.proofs.Common.{ℕ, ◌<◌, subst, below_more, length}
use Rattle.m36_model.specs.JointAudit.{IsJointSegment}
use Rattle.m36_audit.proofs.Segments.{found_first, not_broken}
use Rattle.m36_audit.proofs.Conditions.{none_inside}
use Rattle.m36_audit.proofs.JointSegments.{parted_at, joint_segment_inside}
use Rattle.m36_audit.proofs.joint_words.first_joint_segment_word.Goals as goal

pub joint_open_runs_at-open_runs-requires-clause-before : goal.joint_open_runs_at-open_runs-requires-clause-before
joint_open_runs_at-open_runs-requires-clause-before c = c.loop-a.invariant.opened

pub returns-then-is_in_different_segments : goal.returns-then-is_in_different_segments
returns-then-is_in_different_segments c =
    let tested = parted_at c.args.core.now c.args.dbrs.now c.args.firsts.now.items c.requires.equal_descriptors c.loop-a.a (subst (λ (n : ℕ). c.loop-a.a < n) c.len-a-end.ensures.value c.loop-a-test.true) c.args.segments.now.values.items c.requires.segments c.at.result c.joint_open_runs_at-open_runs.result c.is_in_different_segments.result c.at.ensures c.joint_open_runs_at-open_runs.ensures.value c.is_in_different_segments.ensures in
    found_first (IsJointSegment c.args.core.now c.args.dbrs.now) c.loop-a.a (tested.0 c.if-is_in_different_segments.true) c.loop-a.invariant.none

pub loop-a-preserved : goal.loop-a-preserved
loop-a-preserved c =
    let tested = parted_at c.args.core.now c.args.dbrs.now c.args.firsts.now.items c.requires.equal_descriptors c.loop-a.a (subst (λ (n : ℕ). c.loop-a.a < n) c.len-a-end.ensures.value c.loop-a-test.true) c.args.segments.now.values.items c.requires.segments c.at.result c.joint_open_runs_at-open_runs.result c.is_in_different_segments.result c.at.ensures c.joint_open_runs_at-open_runs.ensures.value c.is_in_different_segments.ensures in
    record {
      opened = c.joint_open_runs_at-open_runs.ensures.after;
      none = below_more _ _ c.loop-a.invariant.none (not_broken (IsJointSegment c.args.core.now c.args.dbrs.now c.loop-a.a) c.is_in_different_segments.result tested c.if-is_in_different_segments.false);
    }

pub returns : goal.returns
returns c =
    none_inside (IsJointSegment c.args.core.now c.args.dbrs.now) (length c.args.core.now) c.len-a-end.result c.loop-a.a c.len-a-end.ensures.value c.loop-a-test.false (joint_segment_inside c.args.core.now c.args.dbrs.now) c.loop-a.invariant.none

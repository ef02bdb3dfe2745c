use Rattle.std.proofs.Common.{ℕ, ◌≡◌, length, subst, arith}
use Rattle.m36_audit.specs.Findings.{finding_pairs}
use Rattle.m36_audit.specs.Joints.{AreWordOwners}
use Rattle.m36_audit.proofs.JointVerdicts.{found_step, found_all}
use Rattle.m36_audit.proofs.joint_auditor.findings_of_all.Goals as goal

pub loop-k-preserved : goal.loop-k-preserved
loop-k-preserved c =
    let more = c.note_process.ensures.len in
    let before = c.loop-k.invariant.room in
    record {
      marks_len = c.findings_of-own.ensures.marks_len;
      starts_len = c.findings_of-own.ensures.starts_len;
      stops_len = c.findings_of-own.ensures.stops_len;
      found = found_step c.args.core.now c.args.dbrs.now c.loop-k.k c.loop-k.findings.items c.note_process.new.findings.items (finding_pairs c.findings_of-own.result.findings.items) c.loop-k-test.true c.findings_of-own.ensures.findings c.note_process.ensures.listed c.loop-k.invariant.found;
      room = omega arith;
      recorded = c.findings_of-own.ensures.after;
    }

pub returns-clause-findings : goal.returns-clause-findings
returns-clause-findings c =
    found_all c.args.core.now c.args.dbrs.now c.loop-k.k c.loop-k.findings.items c.loop-k-test.false c.loop-k.auto.k-end c.loop-k.invariant.found

pub returns-clause-after : goal.returns-clause-after
returns-clause-after c =
    let past = c.loop-k-test.false in
    let near = c.loop-k.auto.k-end in
    let e : c.loop-k.k ≡ length c.args.dbrs.now = omega arith in
    subst (λ (n : ℕ). AreWordOwners c.args.core.now c.args.dbrs.now c.args.firsts.now.items n c.loop-k.owners.tables.values.items c.loop-k.owners.segments.values.items c.loop-k.owners.identities.values.items) e c.loop-k.invariant.recorded

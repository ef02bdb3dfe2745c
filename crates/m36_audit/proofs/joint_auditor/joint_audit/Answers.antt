use Rattle.std.proofs.Common.{length}
use Rattle.m36_audit.proofs.JointVerdicts.{no_shares, zeros_len, nothing_joint}
use Rattle.m36_audit.proofs.joint_auditor.joint_audit.Goals as goal

pub joint_findings-requires-clause-marks_len : goal.joint_findings-requires-clause-marks_len
joint_findings-requires-clause-marks_len c =
    zeros_len c.len-size.result c.in_ok-marks.marks.tables (length c.args.core.now) c.in_ok-marks.ensures.tables c.len-size.ensures.value

pub joint_findings-requires-clause-starts_len : goal.joint_findings-requires-clause-starts_len
joint_findings-requires-clause-starts_len c =
    zeros_len c.len-size.result c.in_ok-counts.counts.starts (length c.args.core.now) c.in_ok-counts.ensures.starts c.len-size.ensures.value

pub joint_findings-requires-clause-stops_len : goal.joint_findings-requires-clause-stops_len
joint_findings-requires-clause-stops_len c =
    zeros_len c.len-size.result c.in_ok-counts.counts.stops (length c.args.core.now) c.in_ok-counts.ensures.stops c.len-size.ensures.value

pub joint_findings-requires-clause-before : goal.joint_findings-requires-clause-before
joint_findings-requires-clause-before c =
    no_shares c.args.core.now c.args.dbrs.now c.in_ok-firsts.firsts.items c.len-size.result c.in_ok-owners.owners.tables.values.items c.in_ok-owners.owners.segments.values.items c.in_ok-owners.owners.identities.values.items
    c.len-size.ensures.value c.in_ok-owners.ensures.tables c.in_ok-owners.ensures.segments c.in_ok-owners.ensures.identities

pub returns-clause-audited : goal.returns-clause-audited
returns-clause-audited c =
    nothing_joint c.law_joint_findings.ensures c.args.core.now c.args.dbrs.now c.joint_findings.result.findings.items c.joint_findings.ensures

pub returns-clause-isolated : goal.returns-clause-isolated
returns-clause-isolated c =
    λ none. c.law_schedule.ensures c.args.core.now c.args.dbrs.now ((nothing_joint c.law_joint_findings.ensures c.args.core.now c.args.dbrs.now c.joint_findings.result.findings.items c.joint_findings.ensures).0 none)

-- The lines are put one after another.
use Rattle.std.proofs.Common.{None}
use Rattle.cmd_image.proofs.AuditPuts.{all_put}
use Rattle.cmd_procs.proofs.JointTexts.{pieces_of_findings, finding_unput, findings_end}
use Rattle.cmd_procs.proofs.findings.put_joint_findings.Goals as goal

pub returns-in-Err : goal.returns-in-Err
returns-in-Err g c =
    finding_unput c.args.findings.now c.loop-finding.finding-index (record { place = 0; process = None; condition = 0 }) (all_put (pieces_of_findings c.args.findings.now)) c.in-Err.status _ _ _ c.loop-finding-test.true c.loop-finding.invariant c.in-Err.ensures

pub returns : goal.returns
returns g c =
    findings_end c.args.findings.now c.loop-finding.finding-index (all_put (pieces_of_findings c.args.findings.now)) _ _ c.loop-finding-test.false c.loop-finding.invariant

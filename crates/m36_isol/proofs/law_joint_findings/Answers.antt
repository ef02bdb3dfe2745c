use Rattle.m36_isol.proofs.JointFindings.{joint_findings_law}
use Rattle.m36_isol.proofs.law_joint_findings.Goals as goal

pub returns : goal.returns
returns c = joint_findings_law

use Rattle.m36_isol.proofs.Findings.{findings_law}
use Rattle.m36_isol.proofs.law_findings.Goals as goal

pub returns : goal.returns
returns c = findings_law

use Rattle.m36_audit.proofs.Verdicts.{nothing_found}
use Rattle.m36_audit.proofs.auditor.audit.Goals as goal

pub returns-clause-audited : goal.returns-clause-audited
returns-clause-audited c =
    nothing_found c.law_findings.ensures c.args.core.now c.args.dbr c.findings_of.result.findings.items c.findings_of.ensures

pub returns-clause-isolated : goal.returns-clause-isolated
returns-clause-isolated c =
    λ none. c.law_window.ensures c.args.core.now c.args.dbr ((nothing_found c.law_findings.ensures c.args.core.now c.args.dbr c.findings_of.result.findings.items c.findings_of.ensures).0 none)

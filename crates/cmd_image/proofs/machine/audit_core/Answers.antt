-- Nothing was found.
use Rattle.std.proofs.Common.{◌≡◌, []}
use Rattle.std.proofs.lemmas.Result.{IfOk-weaker}
use Rattle.m36_model.specs.Core.{core_store, core_tables}
use Rattle.m36_model.specs.Isolation.{Isolated}
use Rattle.m36_audit.specs.Findings.{finding_pairs}
use Rattle.m36_audit.specs.declared.verdict.Verdict.{Verdict}
use Rattle.cmd_image.specs.ImageAudit.{IsIsolated}
use Rattle.cmd_image.proofs.AuditAnswers.{none_of}
use Rattle.cmd_image.proofs.machine.audit_core.Goals as goal

pub returns-clause-found : goal.returns-clause-found
returns-clause-found c = c.audit.ensures.findings

pub returns-clause-isolated : goal.returns-clause-isolated
returns-clause-isolated c =
    let core = c.args.core.now in
    let dbr = c.args.dbr in
    IfOk-weaker c.audit.result (λ (v : Verdict). v.findings.items ≡ [] → Isolated core_store (core_tables core dbr))
    (λ (v : Verdict). finding_pairs v.findings.items ≡ [] → IsIsolated core dbr)
    (λ v isolated. λ none. record { isolates = isolated (none_of v.findings.items none) })
    c.audit.ensures.isolated

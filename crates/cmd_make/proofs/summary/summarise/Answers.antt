-- The system was audited.
use Rattle.std.proofs.Common.{List, sym, subst}
use Rattle.m36_model.specs.Audit.{AreFindings}
use Rattle.m36_audit.specs.declared.verdict.Finding.{Finding}
use Rattle.m36_audit.specs.Findings.{finding_pairs}
use Rattle.cmd_make.proofs.SummarySteps.{found_in}
use Rattle.cmd_make.proofs.summary.summarise.Goals as goal

pub returns-in-Ok : goal.returns-in-Ok
returns-in-Ok g c =
    λ denied.
    found_in c.args.system denied (finding_pairs c.as_slice.result.now) c.perform_for_findings-answer.result _ _ c.requires
    (subst (λ (l : List Finding). AreFindings c.args.system.core c.args.system.regs.dbr (finding_pairs l))
    (sym c.as_slice.ensures.value) c.in-Ok.ensures)
    c.perform_for_findings-answer.ensures

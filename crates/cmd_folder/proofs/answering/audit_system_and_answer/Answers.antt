-- The system was audited.
use Rattle.std.proofs.Common.{List, sym, subst}
use Rattle.m36_model.specs.Audit.{AreFindings}
use Rattle.m36_audit.specs.declared.verdict.Finding.{Finding}
use Rattle.m36_audit.specs.Findings.{finding_pairs}
use Rattle.cmd_folder.proofs.FolderSteps.{found_in}
use Rattle.cmd_folder.proofs.answering.audit_system_and_answer.Goals as goal

pub returns-in-Ok : goal.returns-in-Ok
returns-in-Ok g c =
    found_in c.args.command c.args.system c.args.denied.now (finding_pairs c.as_slice-findings.result.now) c.perform_for_findings-answer.result _ _ c.requires
    (subst (λ (l : List Finding). AreFindings c.args.system.core c.args.system.regs.dbr (finding_pairs l)) (sym c.as_slice-findings.ensures.value) c.in-Ok.ensures)
    c.perform_for_findings-answer.ensures

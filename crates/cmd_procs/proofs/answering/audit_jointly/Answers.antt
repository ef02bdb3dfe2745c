-- The findings are those of the processes.
use Rattle.std.proofs.Common.{◌∙◌, subst, List, ℕ}
use Rattle.std.specs.Prelude.{map}
use Rattle.m36_desc.specs.Fields.{DbrFields}
use Rattle.m36_model.specs.Core.{core_store, core_tables}
use Rattle.m36_model.specs.JointAudit.{AreJointFindings}
use Rattle.m36_model.specs.JointIsolation.{JointlyIsolated}
use Rattle.m36_audit.specs.Joints.{all_found}
use Rattle.cmd_procs.specs.Scheduled.{dbrs_of}
use Rattle.cmd_procs.proofs.ProcsSteps.{none_of}
use Rattle.cmd_procs.proofs.answering.audit_jointly.Goals as goal

pub returns-clause-found : goal.returns-clause-found
returns-clause-found c =
    let found = all_found c.in_ok-verdict.verdict.findings.items in
    subst (λ (s : List ℕ). AreJointFindings s (dbrs_of c.args.procs.now.state) found) c.core.ensures
    (subst (λ (l : List DbrFields). AreJointFindings c.core.result.now l found) (c.as_slice.ensures.value ∙ c.in_ok-dbrs.ensures.value) c.in_ok-verdict.ensures.findings)

pub returns-clause-isolated : goal.returns-clause-isolated
returns-clause-isolated c = λ e. record {
  isolates = subst (λ (s : List ℕ). JointlyIsolated core_store (map (core_tables s) (dbrs_of c.args.procs.now.state))) c.core.ensures
      (subst (λ (l : List DbrFields). JointlyIsolated core_store (map (core_tables c.core.result.now) l)) (c.as_slice.ensures.value ∙ c.in_ok-dbrs.ensures.value) (c.in_ok-verdict.ensures.isolated (none_of c.in_ok-verdict.verdict.findings.items e)));
}

-- The conditions of the audit are kept, by the law, since the state after the call is that of the step.
use Rattle.std.proofs.Common.{ℕ, List, ◌∙◌, ap, sym, subst}
use Rattle.m36_model.specs.Audit.{IsAudited}
use Rattle.m36_model.specs.Core.{core_store}
use Rattle.m36_model.specs.Step.{state_after}
use Rattle.m36_model.specs.Store.{State}
use Rattle.m36_step.specs.MachineFields.{MachineFields}
use Rattle.m36_step.proofs.machine.Machine.step_into.Goals as goal

-- src/machine.rt, the clause kept of step_into
pub returns-clause-kept : goal.returns-clause-kept
returns-clause-kept c audited other =
    let left = c.take_step.ensures.state ∙ ap (λ (m : MachineFields). state_after core_store m.state) c.self.view_is in
    subst (λ (s : State (List ℕ)). IsAudited s.store s.regs.dbr) (sym left) (c.law_audit_preserved.ensures c.args.self.now.state audited other)

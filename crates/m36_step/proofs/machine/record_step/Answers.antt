use Rattle.std.proofs.Common.{[], ◌∙◌}
use Rattle.m36_step.proofs.GoingOn.{told_on}
use Rattle.m36_step.proofs.machine.record_step.Goals as goal

pub returns-then-try_quick_step-clause-ends : goal.returns-then-try_quick_step-clause-ends
returns-then-try_quick_step-clause-ends c =
    told_on c.args.regs.now c.args.walk.now c.clear.new.self.items c.try_quick_step.new.walk.core c.try_quick_step.new.regs c.try_quick_step.new.rec c.clear.ensures (c.try_quick_step.ensures.went c.if-try_quick_step.true)

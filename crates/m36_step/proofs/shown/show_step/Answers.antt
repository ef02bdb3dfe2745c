use Rattle.m36_step.proofs.Showing.{shown_on}
use Rattle.m36_step.proofs.shown.show_step.Goals as goal

pub returns-then-try_quick_step-clause-ends : goal.returns-then-try_quick_step-clause-ends
returns-then-try_quick_step-clause-ends c =
    shown_on c.args.regs.now c.args.walk.now.core c.try_quick_step.new.walk.core c.try_quick_step.new.regs c.try_quick_step.new.rec (c.try_quick_step.ensures.went c.if-try_quick_step.true)

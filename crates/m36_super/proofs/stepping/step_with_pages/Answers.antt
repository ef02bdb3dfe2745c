use Rattle.std.proofs.Common.{refl}
use Rattle.m36_super.proofs.StepTurns.{serving_last}
use Rattle.m36_super.proofs.stepping.step_with_pages.Goals as goal

pub returns : goal.returns
returns c =
    serving_last c.args.machine.now.state c.loop-left.machine.state c.step_into.new.self.state c.args.pager.now c.loop-left.pager c.loop-left.pager c.step_into.new.told c.loop-left.left c.loop-left-test.false c.loop-left.invariant c.step_into.ensures.told c.step_into.ensures.state refl

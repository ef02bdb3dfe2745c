use Rattle.m36_super.proofs.StepTurns.{IsServing}
use Rattle.m36_super.proofs.stepping.step_with_pages.Given as goal

abbrev pub invariant-loop-left : goal.invariant-loop-left
invariant-loop-left l = IsServing l.fn.machine.state l.fn.pager l.machine.state l.pager l.left

abbrev pub decreases-loop-left : goal.decreases-loop-left
decreases-loop-left l = l.left

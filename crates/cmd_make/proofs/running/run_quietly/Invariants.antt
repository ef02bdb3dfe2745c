use Rattle.std.proofs.Common.{◌≡◌, ◌+◌}
use Rattle.m36_super.specs.declared.next_event.NextEvent.TheVariants.{Step}
use Rattle.m36_super.specs.SuperFields.{booted_of}
use Rattle.cmd_make.specs.QuietRun.{run_from}
use Rattle.cmd_make.proofs.RunLoop.{Left}
use Rattle.cmd_make.proofs.running.run_quietly.Given as goal

abbrev pub decreases-steps : goal.decreases-steps
decreases-steps l = l.left

-- what is left of the run; a step is next
abbrev pub invariant-steps : goal.invariant-steps
invariant-steps l = record {
  left : Left l.fn.system.lib l.taken l.left l.system (run_from l.fn.system.lib 0 l.steps (booted_of l.fn.system));
  count : l.taken + l.left ≡ l.steps;
  next : l.system.next_event ≡ Step;
  same : l.system.lib ≡ l.fn.system.lib;
}

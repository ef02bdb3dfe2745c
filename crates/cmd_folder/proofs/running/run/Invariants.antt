use Rattle.std.proofs.Common.{◌≡◌, ◌+◌}
use Rattle.m36_super.specs.declared.next_event.NextEvent.TheVariants.{Step}
use Rattle.m36_super.specs.SuperFields.{booted_of}
use Rattle.cmd_folder.specs.RunProgram.{run_from}
use Rattle.cmd_folder.specs.RunSays.{IsConsoleTextPut, run_of}
use Rattle.cmd_folder.proofs.RunLoop.{Left}
use Rattle.cmd_folder.proofs.running.run.Given as goal

abbrev pub decreases-steps : goal.decreases-steps
decreases-steps g l = l.left

-- what is left of the run; a step is next, and all that the console wrote has been put
abbrev pub invariant-steps : goal.invariant-steps
invariant-steps g l =
    let run = run_of l.fn.system.lib l.output l.denied in
    let seen = g.W.World.seen in
    record {
      left : Left run l.taken l.left l.system l.block (run_from run 0 l.steps (booted_of l.fn.system)) (seen l.fn.world) (seen l.world);
      count : l.taken + l.left ≡ l.steps;
      next : l.system.next_event ≡ Step;
      same : l.system.lib ≡ l.fn.system.lib;
      shown : IsConsoleTextPut l.output l.block;
    }

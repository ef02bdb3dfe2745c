use Rattle.std.proofs.Common.{◌≡◌, ◌+◌}
use Rattle.m36_program.specs.Program.{puts_all}
use Rattle.m36_program.specs.Performs.{Leads}
use Rattle.cmd_image.specs.ImageProgram.{run_from}
use Rattle.cmd_image.proofs.running.run.Given as goal

abbrev pub decreases-steps : goal.decreases-steps
decreases-steps g l = l.left

abbrev pub invariant-steps : goal.invariant-steps
invariant-steps g l = record {
  left : Leads (puts_all l.block (run_from l.taken l.left l.machine.state)) (run_from 0 l.steps l.fn.machine.state) (g.W.World.seen l.fn.world) (g.W.World.seen l.world);
  count : l.taken + l.left ≡ l.steps;
}

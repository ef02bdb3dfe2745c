use Rattle.std.proofs.Common.{◌≡◌, length}
use Rattle.m36_program.specs.Performs.{Leads}
use Rattle.m36_program.specs.Program.{puts_all}
use Rattle.cmd_procs.specs.ProcsProgram.{run_schedule}
use Rattle.cmd_procs.proofs.ScheduleLoop.{left_at}
use Rattle.cmd_procs.proofs.running.run.Given as goal

abbrev pub invariant-loop-n : goal.invariant-loop-n
invariant-loop-n g l = record {
  left : Leads (puts_all l.block (left_at l.fn.procs.schedule l.n l.procs.state)) (run_schedule l.fn.procs) (g.W.World.seen l.fn.world) (g.W.World.seen l.world);
  schedule : l.procs.schedule ≡ l.fn.procs.schedule;
  events : l.events ≡ length l.fn.procs.schedule;
}

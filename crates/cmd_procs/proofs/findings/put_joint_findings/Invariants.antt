use Rattle.std.proofs.Common.{drop}
use Rattle.m36_program.specs.Performs.{Leads}
use Rattle.cmd_image.proofs.AuditPuts.{all_put}
use Rattle.cmd_procs.proofs.JointTexts.{pieces_of_findings}
use Rattle.cmd_procs.proofs.findings.put_joint_findings.Given as goal

abbrev pub invariant-loop-finding : goal.invariant-loop-finding
invariant-loop-finding g l =
    Leads (all_put (pieces_of_findings (drop l.finding-index l.findings))) (all_put (pieces_of_findings l.findings)) (g.W.World.seen l.fn.world) (g.W.World.seen l.world)

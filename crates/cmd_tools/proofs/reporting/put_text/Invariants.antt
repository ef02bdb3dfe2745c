use Rattle.std.proofs.Common.{length}
use Rattle.m36_program.specs.Performs.{Leads}
use Rattle.m36_program.specs.Program.{May}
use Rattle.cmd_tools.specs.Reporting.{put_text}
use Rattle.cmd_tools.proofs.reporting.put_text.Given as goal

abbrev pub decreases-lines : goal.decreases-lines
decreases-lines g l = length l.rest

abbrev pub invariant-lines : goal.invariant-lines
invariant-lines g l =
    (may : May) → Leads {may = may} (put_text l.rest) (put_text l.text) (g.W.World.seen l.fn.world) (g.W.World.seen l.world)

use Rattle.std.proofs.Common.{drop}
use Rattle.m36_program.specs.Performs.{Leads}
use Rattle.cmd_tools.specs.Reporting.{write_files}
use Rattle.cmd_tools.proofs.reporting.write_files.Given as goal

abbrev pub invariant-loop-file : goal.invariant-loop-file
invariant-loop-file g l =
    Leads (write_files (drop l.file-index l.files)) (write_files l.files) (g.W.World.seen l.fn.world) (g.W.World.seen l.world)

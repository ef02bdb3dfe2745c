use Rattle.std.proofs.Common.{[], drop}
use Rattle.m36_program.specs.Performs.{Leads}
use Rattle.m36_files.specs.EachFile.{read_each}
use Rattle.m36_files.specs.FileReaders.{file_object}
use Rattle.m36_files.specs.Writing.{may_write_files}
use Rattle.cmd_tools.proofs.binding.read_objects.Given as goal

abbrev pub invariant-loop-name : goal.invariant-loop-name
invariant-loop-name g l =
    Leads {may = may_write_files} (read_each file_object l.objects (drop l.name-index l.names)) (read_each file_object [] l.names) (g.W.World.seen l.fn.world) (g.W.World.seen l.world)

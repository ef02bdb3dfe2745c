-- The folder in memory was read.
use Rattle.std.proofs.Common.{refl, ap, ◌∙◌}
use Rattle.m36_outside.specs.FileList.{file_named}
use Rattle.m36_program.specs.Program.{quiet}
use Rattle.cmd_folder.specs.Systems.{folder_result}
use Rattle.cmd_make.specs.Making.{files_in}
use Rattle.cmd_make.proofs.Files.{booted_in}
use Rattle.cmd_make.proofs.InMemoryLaws.{never_rose}
use Rattle.cmd_make.proofs.folder.boot_in_memory.Goals as goal

pub returns-in-Ok-clause-goes : goal.returns-in-Ok-clause-goes
returns-in-Ok-clause-goes c =
    booted_in c.args.sets.now (file_named c.in-Ok.world.folder.files) (folder_result c.read_system-given.result) _ _
    (c.read_system-given.ensures.performs quiet) (c.in-Ok.ensures ∙ ap files_in c.items.ensures) refl
    (record {
      reads = never_rose _ _ refl refl;
      writes = never_rose _ _ refl refl;
      outputs = never_rose _ _ refl refl;
      inputs = never_rose _ _ refl refl;
    })

-- Each command does what its program says.
use Rattle.cmd_image.specs.declared.command.ImageCommand.TheVariants as image
use Rattle.cmd_image.specs.ImageProgram.{image_program}
use Rattle.cmd_procs.specs.ProcsProgram.{procs_program}
use Rattle.cmd_tools.specs.ToolPrograms.{print_program}
use Rattle.cmd_debug.specs.DebugProgram.{debug_image}
use Rattle.m36_top.specs.declared.command.Command.TheVariants.{Bare, Audit, Booted, Procs, Access, Print}
use Rattle.m36_top.specs.declared.command.Command.TheVariants.{Alm, Bind, DebugFolder, DebugImage, Make}
use Rattle.m36_top.proofs.Programs.{as_performs, named}
use Rattle.m36_top.proofs.top.perform.Goals as goal

pub returns-in-Bare : goal.returns-in-Bare
returns-in-Bare g c =
    as_performs c.args.command.now (Bare c.in-Bare.file c.in-Bare.run') c.perform_image_command.result _ _ c.in-Bare.is
    (named (image_program (image.Bare c.in-Bare.run')) c.in-Bare.file c.bytes.result.now
    c.perform_image_command.result _ _ c.bytes.ensures.value c.perform_image_command.ensures)

pub returns-in-Audit : goal.returns-in-Audit
returns-in-Audit g c =
    as_performs c.args.command.now (Audit c.in-Audit.file) c.perform_image_command-in-Audit.result _ _ c.in-Audit.is
    (named (image_program image.Audit) c.in-Audit.file c.bytes-in-Audit.result.now
    c.perform_image_command-in-Audit.result _ _ c.bytes-in-Audit.ensures.value c.perform_image_command-in-Audit.ensures)

pub returns-in-Booted : goal.returns-in-Booted
returns-in-Booted g c =
    as_performs c.args.command.now (Booted c.in-Booted.command c.in-Booted.user)
    c.perform_folder_command.result _ _ c.in-Booted.is
    c.perform_folder_command.ensures

pub returns-in-Procs : goal.returns-in-Procs
returns-in-Procs g c =
    as_performs c.args.command.now (Procs c.in-Procs.file c.in-Procs.unaudited) c.perform_procs_command.result _ _ c.in-Procs.is
    (named (procs_program c.in-Procs.unaudited) c.in-Procs.file c.bytes-in-Procs.result.now
    c.perform_procs_command.result _ _ c.bytes-in-Procs.ensures.value c.perform_procs_command.ensures)

pub returns-in-Access : goal.returns-in-Access
returns-in-Access g c =
    as_performs c.args.command.now (Access c.in-Access.user) c.print_access.result _ _ c.in-Access.is
    c.print_access.ensures

pub returns-in-Print : goal.returns-in-Print
returns-in-Print g c =
    as_performs c.args.command.now (Print c.in-Print.name) c.print_object.result _ _ c.in-Print.is
    (named print_program c.in-Print.name c.bytes-in-Print.result.now
    c.print_object.result _ _ c.bytes-in-Print.ensures.value c.print_object.ensures)

pub returns-in-Alm : goal.returns-in-Alm
returns-in-Alm g c =
    as_performs c.args.command.now (Alm c.in-Alm.files) c.assemble_file.result _ _ c.in-Alm.is
    c.assemble_file.ensures

pub returns-in-Bind : goal.returns-in-Bind
returns-in-Bind g c =
    as_performs c.args.command.now (Bind c.in-Bind.files) c.bind_objects.result _ _ c.in-Bind.is
    c.bind_objects.ensures

pub returns-in-DebugFolder : goal.returns-in-DebugFolder
returns-in-DebugFolder g c =
    as_performs c.args.command.now DebugFolder c.debug_folder.result _ _ c.in-DebugFolder.is
    c.debug_folder.ensures

pub returns-in-DebugImage : goal.returns-in-DebugImage
returns-in-DebugImage g c =
    as_performs c.args.command.now (DebugImage c.in-DebugImage.file) c.debug_image.result _ _ c.in-DebugImage.is
    (named debug_image c.in-DebugImage.file c.bytes-in-DebugImage.result.now
    c.debug_image.result _ _ c.bytes-in-DebugImage.ensures.value c.debug_image.ensures)

pub returns-in-Make : goal.returns-in-Make
returns-in-Make g c =
    as_performs c.args.command.now (Make c.in-Make.seed) c.perform_make.result _ _ c.in-Make.is
    c.perform_make.ensures

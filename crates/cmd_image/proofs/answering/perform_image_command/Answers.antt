-- The image was read, or not.
use Rattle.m36_program.specs.Program.{quiet}
use Rattle.m36_program.proofs.Performing.{performs_then, performs_stop}
use Rattle.cmd_image.specs.ImageProgram.{image_state, on_image, image_program}
use Rattle.cmd_image.proofs.answering.perform_image_command.Goals as goal

pub returns-in-Ok : goal.returns-in-Ok
unfolding image_program
returns-in-Ok g c =
    performs_then (image_state c.args.name.now) (on_image c.args.command) c.in-Ok.image c.audit_image_and_answer.result _ _ _ (c.in-Ok.ensures quiet) c.audit_image_and_answer.ensures

pub returns-in-Err : goal.returns-in-Err
unfolding image_program
returns-in-Err g c =
    performs_stop (image_state c.args.name.now) (on_image c.args.command) c.in-Err.status _ _ (c.in-Err.ensures quiet)

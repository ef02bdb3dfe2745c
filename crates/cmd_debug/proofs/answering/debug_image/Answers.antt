-- The image was read, or not.
use Rattle.m36_debug.specs.SessionProgram.{talking}
use Rattle.cmd_debug.proofs.DebugSteps.{image_read, image_unread}
use Rattle.cmd_debug.proofs.answering.debug_image.Goals as goal

pub returns-in-Ok : goal.returns-in-Ok
returns-in-Ok g c = image_read c.args.name.now c.in-Ok.image c.hold_image_session.result _ _ _ (c.in-Ok.ensures talking) c.hold_image_session.ensures

pub returns-in-Err : goal.returns-in-Err
returns-in-Err g c = image_unread c.args.name.now c.in-Err.status _ _ (c.in-Err.ensures talking)

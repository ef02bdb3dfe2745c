-- The session was held over the machine of the image.
use Rattle.cmd_debug.proofs.DebugSteps.{image_held}
use Rattle.cmd_debug.proofs.answering.hold_image_session.Goals as goal

pub returns : goal.returns
returns g c = image_held c.args.image c.in-Ok-past_of.past c.hold_session.result _ _ c.in-Ok-past_of.ensures c.hold_session.ensures

use Rattle.m36_page.specs.Choice.{IsHeldSpot}
use Rattle.m36_page.proofs.Frames.{marked_then}
use Rattle.m36_page.proofs.choice.unused_from.Goals as goal

pub returns-clause-marks : goal.returns-clause-marks
returns-clause-marks c =
    marked_then c.args.core.now c.unused_between.new.core c.unused_between-2.new.core (IsHeldSpot c.args.references.now c.args.holders.now c.args.spots.now)
    c.unused_between.ensures.marks c.unused_between-2.ensures.marks

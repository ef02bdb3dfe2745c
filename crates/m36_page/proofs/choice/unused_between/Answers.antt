use Rattle.m36_page.proofs.Frames.{held_in_core, passed_then}
use Rattle.m36_page.proofs.choice.unused_between.Goals as goal

pub is_skipped-requires : goal.is_skipped-requires
is_skipped-requires c =
    held_in_core c.args.holders.now c.args.spots.now c.args.core.now c.loop-k.core c.loop-k.k c.requires.inside c.loop-k.invariant.size

pub returns-then-not-is_skipped-clause-marks : goal.returns-then-not-is_skipped-clause-marks
returns-then-not-is_skipped-clause-marks c =
    passed_then c.args.references.now c.args.holders.now c.args.spots.now c.args.core.now c.loop-k.core c.is_skipped.new.core c.loop-k.k
    c.loop-k.invariant c.is_skipped.ensures.marks

pub loop-k-preserved : goal.loop-k-preserved
loop-k-preserved c =
    passed_then c.args.references.now c.args.holders.now c.args.spots.now c.args.core.now c.loop-k.core c.is_skipped.new.core c.loop-k.k
    c.loop-k.invariant c.is_skipped.ensures.marks

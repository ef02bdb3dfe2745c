use Rattle.std.proofs.Common.{below_more}
use Rattle.m36_audit.specs.Breaks.{Breaks}
use Rattle.m36_audit.proofs.Segments.{found_first, found_none, not_broken, broken_inside}
use Rattle.m36_audit.proofs.breaking.first_segment.Goals as goal

pub returns-then-breaks : goal.returns-then-breaks
returns-then-breaks c =
    found_first (Breaks c.args.condition c.args.core.now c.args.dbr) c.loop-seg.seg (c.breaks.ensures.0 c.if-breaks.true) c.loop-seg.invariant

pub returns : goal.returns
returns c =
    found_none (Breaks c.args.condition c.args.core.now c.args.dbr) c.args.dbr c.segment_count-seg-end.result c.loop-seg.seg (broken_inside c.args.condition c.args.core.now c.args.dbr) c.segment_count-seg-end.ensures.is c.loop-seg-test.false c.loop-seg.invariant

pub loop-seg-preserved : goal.loop-seg-preserved
loop-seg-preserved c =
    below_more _ _ c.loop-seg.invariant (not_broken (Breaks c.args.condition c.args.core.now c.args.dbr c.loop-seg.seg) c.breaks.result c.breaks.ensures c.if-breaks.false)

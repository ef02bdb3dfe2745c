use Rattle.std.proofs.Common.{length, arith}
use Rattle.m36_audit.proofs.SegmentRuns.{all_counted}
use Rattle.m36_audit.proofs.segment_runs.count_segments.Goals as goal

pub returns : goal.returns
returns c =
    all_counted c.args.core.now c.args.dbr c.segment_count-seg-end.result c.loop-seg.seg c.segment_count-seg-end.ensures.is c.loop-seg-test.false (omega arith) (length c.args.core.now) c.loop-seg.counts.starts c.loop-seg.counts.stops c.loop-seg.invariant

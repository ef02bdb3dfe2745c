use Rattle.std.proofs.Common.{length, ap, ◌∙◌}
use Rattle.m36_dir.proofs.Kept.{segments_length}
use Rattle.m36_dir.proofs.LineLoops.{segments_more, segments_all}
use Rattle.m36_dir.proofs.building.segments_in.Goals as goal

pub loop-i-preserved : goal.loop-i-preserved
loop-i-preserved c =
    segments_more c.args.dirs.now c.loop-i.segments.items c.add_segment.new.segments.items _ c.args.lines.now c.lines_after.result.now c.loop-i.i c.index-lines-i.result
    c.loop-i-test.true c.index-lines-i.is c.lines_after.ensures c.in_ok-add_segment.ensures c.loop-i.invariant

pub returns-clause-value : goal.returns-clause-value
returns-clause-value c = segments_all c.args.dirs.now c.loop-i.segments.items _ c.args.lines.now c.loop-i.i c.loop-i-test.false c.loop-i.invariant

pub returns-clause-count : goal.returns-clause-count
returns-clause-count c =
    ap length (segments_all c.args.dirs.now c.loop-i.segments.items _ c.args.lines.now c.loop-i.i c.loop-i-test.false c.loop-i.invariant)
    ∙ segments_length c.args.dirs.now c.args.lines.now

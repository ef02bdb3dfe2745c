use Rattle.std.proofs.Common.{◌≡◌, ◌/◌, ◌<◌, length, ap, arith}
use Rattle.m36_desc.specs.Fields.{SdwFields}
use Rattle.m36_audit.proofs.SegmentRuns.{pages_counted}
use Rattle.m36_audit.proofs.segment_runs.count_pages.Goals as goal

pub returns : goal.returns
returns c =
    let bounds : c.sdw.inside.bound ≡ c.args.sdw.now.bound = ap (λ (d : SdwFields). d.bound) c.sdw.view_is in
    let past : c.args.sdw.now.bound / 64 < c.loop-page.page = omega arith in
    pages_counted c.args.core.now c.args.dbr c.args.seg c.args.sdw.now c.requires.live c.requires.order c.requires.paged c.loop-page.page past (omega arith) (length c.args.core.now) c.loop-page.counts.starts c.loop-page.counts.stops c.loop-page.invariant

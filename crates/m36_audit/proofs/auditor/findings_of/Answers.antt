use Rattle.std.proofs.Common.{length}
use Rattle.m36_audit.specs.Runs.{run}
use Rattle.m36_audit.proofs.SegmentRuns.{nothing_counted}
use Rattle.m36_audit.proofs.auditor.findings_of.Goals as goal

pub count_segments-requires : goal.count_segments-requires
count_segments-requires c = record {
  before = nothing_counted (run c.args.core.now c.args.dbr) (length c.args.core.now) c.args.counts.now.starts c.args.counts.now.stops c.requires.starts c.requires.stops;
}

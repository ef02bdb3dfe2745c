use Rattle.std.proofs.Common.{◌*◌, length}
use Rattle.m36_audit.specs.Runs.{run, AreCounted}
use Rattle.m36_audit.proofs.segment_runs.count_segments.Given as goal

-- The runs of the segments before this one are counted.
abbrev pub invariant-loop-seg : goal.invariant-loop-seg
invariant-loop-seg l =
    AreCounted (run l.core l.dbr) (256 * l.seg) (length l.core) l.counts.starts l.counts.stops

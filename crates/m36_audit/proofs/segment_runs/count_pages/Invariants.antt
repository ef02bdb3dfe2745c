use Rattle.std.proofs.Common.{◌+◌, ◌*◌, length}
use Rattle.m36_audit.specs.Runs.{run, AreCounted}
use Rattle.m36_audit.proofs.segment_runs.count_pages.Given as goal

-- The pages before this one are counted.
abbrev pub invariant-loop-page : goal.invariant-loop-page
invariant-loop-page l =
    AreCounted (run l.core l.dbr) (256 * l.seg + l.page) (length l.core) l.counts.starts l.counts.stops

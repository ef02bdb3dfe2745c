use Rattle.std.proofs.Common.{◌+◌, ◌*◌, ◌^◌, length}
use Rattle.m36_audit.specs.Runs.{AreCounted}
use Rattle.m36_audit.specs.WordOwners.{joint_run}
use Rattle.m36_audit.proofs.joint_runs.count_process.Given as goal

-- The runs of the segments before this one are counted.
abbrev pub invariant-loop-seg : goal.invariant-loop-seg
invariant-loop-seg l =
    AreCounted (joint_run l.core l.dbrs l.firsts.items) (256 * (2 ^ 15 * l.k + l.seg)) (length l.core) l.counts.starts l.counts.stops

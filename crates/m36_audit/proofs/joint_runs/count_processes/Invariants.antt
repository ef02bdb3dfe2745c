use Rattle.std.proofs.Common.{◌*◌, ◌^◌, length}
use Rattle.m36_audit.specs.Runs.{AreCounted}
use Rattle.m36_audit.specs.WordOwners.{joint_run}
use Rattle.m36_audit.proofs.joint_runs.count_processes.Given as goal

-- The runs of the processes before this one are counted.
abbrev pub invariant-loop-k : goal.invariant-loop-k
invariant-loop-k l =
    AreCounted (joint_run l.core l.dbrs l.firsts.items) (256 * (2 ^ 15 * l.k)) (length l.core) l.counts.starts l.counts.stops

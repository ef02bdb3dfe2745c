use Rattle.std.proofs.Common.{◌+◌, ◌*◌, length}
use Rattle.m36_audit.specs.Runs.{AreCounted}
use Rattle.m36_audit.specs.WordOwners.{joint_run}
use Rattle.m36_audit.proofs.joint_runs.count_pieces.Given as goal

-- The runs before this one are counted.
abbrev pub invariant-loop-piece : goal.invariant-loop-piece
invariant-loop-piece l =
    AreCounted (joint_run l.core l.fn.dbrs l.fn.firsts.items) (256 * l.fn.table_number + l.piece) (length l.core) l.counts.starts l.counts.stops

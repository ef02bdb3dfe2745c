use Rattle.std.proofs.Common.{◌≡◌, ◌*◌, ◌+◌, ◌≤◌, ℕ, length, subst, arith}
use Rattle.m36_audit.specs.Runs.{run_by, AreCounted}
use Rattle.m36_audit.specs.WordOwners.{joint_run, piece_count}
use Rattle.m36_audit.proofs.SegmentRuns.{starts_room, stops_room}
use Rattle.m36_audit.proofs.JointRuns.{piece_counted, pieces_done}
use Rattle.m36_audit.proofs.joint_runs.count_pieces.Goals as goal

pub count_piece-requires-clause-room : goal.count_piece-requires-clause-room
count_piece-requires-clause-room c =
    λ a. starts_room (joint_run c.args.core.now c.args.dbrs.now c.args.firsts.now.items) (256 * c.args.table_number + c.loop-piece.piece) (length c.args.core.now) c.loop-piece.counts.starts c.loop-piece.counts.stops a (omega arith) c.loop-piece.invariant

pub count_piece-requires-clause-room_at_end : goal.count_piece-requires-clause-room_at_end
count_piece-requires-clause-room_at_end c =
    λ a. stops_room (joint_run c.args.core.now c.args.dbrs.now c.args.firsts.now.items) (256 * c.args.table_number + c.loop-piece.piece) (length c.args.core.now) c.loop-piece.counts.starts c.loop-piece.counts.stops a (omega arith) c.loop-piece.invariant

pub loop-piece-preserved : goal.loop-piece-preserved
loop-piece-preserved c =
    let most = c.pieces-piece-end.ensures.most in
    let e : 256 * c.args.table_number + c.loop-piece.piece + 1 ≡ 256 * c.args.table_number + (c.loop-piece.piece + 1) = omega arith in
    subst (λ (n : ℕ). AreCounted (joint_run c.args.core.now c.args.dbrs.now c.args.firsts.now.items) n (length c.args.core.now) c.count_piece.new.counts.starts c.count_piece.new.counts.stops) e
    (piece_counted (joint_run c.args.core.now c.args.dbrs.now c.args.firsts.now.items) (256 * c.args.table_number + c.loop-piece.piece) (length c.args.core.now) c.loop-piece.counts.starts c.loop-piece.counts.stops (run_by c.args.sdw.now.unpaged c.args.core.now c.args.sdw.now c.loop-piece.piece) c.count_piece.new.counts.starts c.count_piece.new.counts.stops (c.requires.runs c.loop-piece.piece (omega arith)) c.count_piece.ensures.starts c.count_piece.ensures.stops c.loop-piece.invariant)

pub returns : goal.returns
returns c =
    let most = c.pieces-piece-end.ensures.most in
    let is = c.pieces-piece-end.ensures.value in
    let last = c.loop-piece-test.false in
    let enough : piece_count c.args.sdw.now ≤ c.loop-piece.piece = subst (λ (n : ℕ). n ≤ c.loop-piece.piece) is last in
    pieces_done (joint_run c.args.core.now c.args.dbrs.now c.args.firsts.now.items) c.args.core.now c.args.sdw.now c.args.table_number c.loop-piece.piece (length c.args.core.now) c.loop-piece.counts.starts c.loop-piece.counts.stops c.requires.runs enough (omega arith) c.loop-piece.invariant

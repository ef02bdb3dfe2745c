use Rattle.std.proofs.Common.{length, arith}
use Rattle.m36_audit.proofs.Noting.{dbr_at}
use Rattle.m36_audit.proofs.JointRuns.{process_counted}
use Rattle.m36_audit.proofs.joint_runs.count_process.Goals as goal

pub returns : goal.returns
returns c =
    let few = c.segment_count-seg-end.ensures.most in
    process_counted c.args.core.now c.args.dbrs.now c.args.firsts.now.items c.args.k c.index-dbrs-k.result (dbr_at c.args.dbrs.now c.args.k c.index-dbrs-k.result c.requires.process c.index-dbrs-k.is) c.segment_count-seg-end.result c.loop-seg.seg (length c.args.core.now) c.loop-seg.counts.starts c.loop-seg.counts.stops c.segment_count-seg-end.ensures.is c.loop-seg-test.false (omega arith) c.loop-seg.invariant

use Rattle.std.proofs.Common.{◌*◌, ◌+◌, ◌^◌, ◌<◌, length, sym, ◌∙◌, arith}
use Rattle.m36_audit.proofs.Noting.{dbr_at, dbr_of, value_at}
use Rattle.m36_audit.proofs.SegmentRuns.{disorder_at}
use Rattle.m36_audit.proofs.JointRuns.{not_first, no_words, runs_are}
use Rattle.m36_audit.proofs.joint_runs.count_segment_if_first.Goals as goal

pub returns-then-index-table_number : goal.returns-then-index-table_number
returns-then-index-table_number c =
    let process = c.requires.process in
    let there = c.requires.there in
    let seg = c.requires.seg in
    let lt : 2 ^ 15 * c.args.k + c.args.seg < length c.args.firsts.now.items = omega arith in
    let is = value_at c.args.firsts.now.items (2 ^ 15 * c.args.k + c.args.seg) c.index.result.now lt c.index.ensures in
    let dbr = dbr_of c.args.dbrs.now c.args.k c.requires.process in
    not_first c.args.core.now c.args.dbrs.now c.args.firsts.now.items c.args.k dbr.0 dbr.1 c.args.seg c.requires.seg (λ e. c.if-index-table_number.true (is ∙ e)) (length c.args.core.now) c.args.counts.now.starts c.args.counts.now.stops c.requires.before

pub count_pieces-requires-clause-runs : goal.count_pieces-requires-clause-runs
count_pieces-requires-clause-runs c =
    let process = c.requires.process in
    let there = c.requires.there in
    let seg = c.requires.seg in
    let lt : 2 ^ 15 * c.args.k + c.args.seg < length c.args.firsts.now.items = omega arith in
    let is = value_at c.args.firsts.now.items (2 ^ 15 * c.args.k + c.args.seg) c.index.result.now lt c.index.ensures in
    runs_are c.args.core.now c.args.dbrs.now c.args.firsts.now.items c.args.k c.index-dbrs-k.result (dbr_at c.args.dbrs.now c.args.k c.index-dbrs-k.result c.requires.process c.index-dbrs-k.is) c.args.seg c.requires.seg (sym is ∙ c.if-index-table_number.false) c.in-Some.sdw c.in-Some.ensures (sym c.has_ordered_brackets.ensures ∙ c.if-has_ordered_brackets.true)

pub returns-else-has_ordered_brackets : goal.returns-else-has_ordered_brackets
returns-else-has_ordered_brackets c =
    no_words c.args.core.now c.args.dbrs.now c.args.firsts.now.items c.args.k c.index-dbrs-k.result (dbr_at c.args.dbrs.now c.args.k c.index-dbrs-k.result c.requires.process c.index-dbrs-k.is) c.args.seg c.requires.seg
    (disorder_at c.args.core.now c.index-dbrs-k.result c.args.seg c.in-Some.sdw c.in-Some.ensures (sym c.has_ordered_brackets.ensures ∙ c.if-has_ordered_brackets.false))
    (length c.args.core.now) c.args.counts.now.starts c.args.counts.now.stops c.requires.before

pub returns-in-None : goal.returns-in-None
returns-in-None c =
    no_words c.args.core.now c.args.dbrs.now c.args.firsts.now.items c.args.k c.index-dbrs-k.result (dbr_at c.args.dbrs.now c.args.k c.index-dbrs-k.result c.requires.process c.index-dbrs-k.is) c.args.seg c.requires.seg
    (λ d live. absurd (c.in-None.ensures d live))
    (length c.args.core.now) c.args.counts.now.starts c.args.counts.now.stops c.requires.before

use Rattle.std.proofs.Common.{◌^◌, length, arith}
use Rattle.m36_audit.specs.Runs.{run}
use Rattle.m36_audit.proofs.Conditions.{runs_in_order}
use Rattle.m36_audit.proofs.Covering.{open_most, open_enough, open_covers, open_next}
use Rattle.m36_audit.proofs.words.open_runs_at.Goals as goal

pub overflow_add-result : goal.overflow_add-result
overflow_add-result c =
    let most = open_most (run c.args.core.now c.args.dbr) (2 ^ 23) (length c.args.core.now) c.args.counts.now.starts c.args.counts.now.stops c.requires.counted (runs_in_order c.args.core.now c.args.dbr) c.args.a c.args.open_runs c.requires.before c.requires.inside in
    let begin = c.at-begin.ensures in
    omega arith

pub overflow_sub-result : goal.overflow_sub-result
overflow_sub-result c =
    let enough = open_enough (run c.args.core.now c.args.dbr) (2 ^ 23) (length c.args.core.now) c.args.counts.now.starts c.args.counts.now.stops c.requires.counted (runs_in_order c.args.core.now c.args.dbr) c.args.a c.args.open_runs c.requires.before c.requires.inside in
    let begin = c.at-begin.ensures in
    let end = c.at-end.ensures in
    omega arith

pub returns-clause-value : goal.returns-clause-value
returns-clause-value c =
    let covers = open_covers (run c.args.core.now c.args.dbr) (2 ^ 23) (length c.args.core.now) c.args.counts.now.starts c.args.counts.now.stops c.requires.counted (runs_in_order c.args.core.now c.args.dbr) c.args.a c.args.open_runs c.requires.before c.requires.inside in
    let begin = c.at-begin.ensures in
    let end = c.at-end.ensures in
    rw (begin, end) covers

pub returns-clause-after : goal.returns-clause-after
returns-clause-after c =
    let next = open_next (run c.args.core.now c.args.dbr) (2 ^ 23) (length c.args.core.now) c.args.counts.now.starts c.args.counts.now.stops c.requires.counted (runs_in_order c.args.core.now c.args.dbr) c.args.a c.args.open_runs c.requires.before c.requires.inside in
    let begin = c.at-begin.ensures in
    let end = c.at-end.ensures in
    rw (begin, end) next

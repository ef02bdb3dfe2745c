use Rattle.std.proofs.Common.{below_more, arith}
use Rattle.m36_model.specs.Audit.{IsInTwoSegments}
use Rattle.m36_audit.proofs.Segments.{found_first, not_broken}
use Rattle.m36_audit.proofs.Conditions.{none_begun, few_open}
use Rattle.m36_audit.proofs.words.first_word_in_two_segments.Goals as goal

pub returns-then-is_in_two_segments : goal.returns-then-is_in_two_segments
returns-then-is_in_two_segments c =
    found_first (IsInTwoSegments c.args.core.now c.args.dbr) c.loop-a.a (c.is_in_two_segments.ensures.0 c.if-is_in_two_segments.true) c.loop-a.invariant.none

pub returns : goal.returns
returns c =
    none_begun c.args.core.now c.args.dbr c.args.counts.now.starts c.args.counts.now.stops c.end-a-end.result c.loop-a.a c.loop-a.open_runs c.requires.counted c.loop-a.invariant.opened c.loop-a.invariant.few c.end-a-end.ensures.zeros c.loop-a-test.false c.loop-a.invariant.none

pub loop-a-preserved : goal.loop-a-preserved
loop-a-preserved c =
    let unbroken = not_broken (IsInTwoSegments c.args.core.now c.args.dbr c.loop-a.a) c.is_in_two_segments.result c.is_in_two_segments.ensures c.if-is_in_two_segments.false in
    let near = c.loop-a-test.true in
    let most = c.end-a-end.ensures.inside in
    let len = c.requires.counted.starts_len in
    record {
      opened = c.open_runs_at-open_runs.ensures.after;
      few = few_open c.args.core.now c.args.dbr c.loop-a.a c.open_runs_at-open_runs.result (omega arith) c.open_runs_at-open_runs.ensures.value unbroken;
      none = below_more _ _ c.loop-a.invariant.none unbroken;
    }

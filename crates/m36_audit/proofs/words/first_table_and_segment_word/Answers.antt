use Rattle.std.proofs.Common.{below_more}
use Rattle.m36_model.specs.Audit.{IsTableAndSegment}
use Rattle.m36_audit.proofs.Segments.{found_first, not_broken}
use Rattle.m36_audit.proofs.Conditions.{none_marked}
use Rattle.m36_audit.proofs.words.first_table_and_segment_word.Goals as goal

pub returns-then-is_table_and_segment : goal.returns-then-is_table_and_segment
returns-then-is_table_and_segment c =
    found_first (IsTableAndSegment c.args.core.now c.args.dbr) c.loop-a.a (c.is_table_and_segment.ensures.0 c.if-is_table_and_segment.true) c.loop-a.invariant.none

pub returns : goal.returns
returns c =
    none_marked c.args.core.now c.args.dbr c.args.marks.now.tables c.args.marks.now.least c.end-a-end.result c.loop-a.a c.requires.marked c.end-a-end.ensures.zeros c.loop-a-test.false c.loop-a.invariant.none

pub loop-a-preserved : goal.loop-a-preserved
loop-a-preserved c = record {
  opened = c.open_runs_at-open_runs.ensures.after;
  none = below_more _ _ c.loop-a.invariant.none (not_broken (IsTableAndSegment c.args.core.now c.args.dbr c.loop-a.a) c.is_table_and_segment.result c.is_table_and_segment.ensures c.if-is_table_and_segment.false);
}

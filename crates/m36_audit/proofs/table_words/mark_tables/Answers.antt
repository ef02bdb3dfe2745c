use Rattle.std.proofs.Common.{length}
use Rattle.m36_audit.proofs.TableWords.{all_marked}
use Rattle.m36_audit.proofs.table_words.mark_tables.Goals as goal

pub returns : goal.returns
returns c =
    all_marked c.args.core.now c.args.dbr c.segment_count-seg-end.result c.loop-seg.seg c.segment_count-seg-end.ensures.is c.loop-seg-test.false (length c.args.core.now) c.loop-seg.marks.tables c.loop-seg.marks.least c.loop-seg.invariant

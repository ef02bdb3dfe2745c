use Rattle.std.proofs.Common.{◌*◌, length}
use Rattle.m36_audit.specs.TableMarks.{AreMarked, IsMarkedSoFar}
use Rattle.m36_audit.proofs.table_words.mark_tables.Given as goal

-- The table words of the segments before this one are marked.
abbrev pub invariant-loop-seg : goal.invariant-loop-seg
invariant-loop-seg l =
    AreMarked (IsMarkedSoFar l.core l.dbr l.seg l.seg (256 * l.seg)) (length l.core) l.marks.tables l.marks.least

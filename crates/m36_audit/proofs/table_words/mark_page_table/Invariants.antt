use Rattle.std.proofs.Common.{◌+◌, ◌*◌, length}
use Rattle.m36_audit.specs.TableMarks.{AreMarked, IsMarkedSoFar}
use Rattle.m36_audit.proofs.table_words.mark_page_table.Given as goal

-- The pages before this one are marked.
abbrev pub invariant-loop-page : goal.invariant-loop-page
invariant-loop-page l =
    AreMarked (IsMarkedSoFar l.core l.fn.dbr (l.seg + 1) (l.seg + 1) (256 * l.seg + l.page)) (length l.core) l.marks.tables l.marks.least

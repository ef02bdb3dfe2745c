use Rattle.m36_page.specs.Changes.{AreAbsent}
use Rattle.m36_page.proofs.table.put_absent_tables.Given as goal

-- the tables so far are written
abbrev pub invariant-loop-table : goal.invariant-loop-table
invariant-loop-table l = AreAbsent l.tables l.table-index l.fn.core l.core

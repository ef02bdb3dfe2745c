use Rattle.std.proofs.Common.{◌≡◌, map, take}
use Rattle.m36_page.specs.Given.{filled_table}
use Rattle.m36_page.proofs.table.filled_tables.Given as goal

abbrev pub invariant-loop-one : goal.invariant-loop-one
invariant-loop-one l = l.tables.items ≡ map filled_table (take l.one-index l.given)

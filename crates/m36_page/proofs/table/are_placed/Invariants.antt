use Rattle.std.proofs.Common.{◌≡◌, drop}
use Rattle.m36_page.specs.Given.{are_placed}
use Rattle.m36_page.proofs.table.are_placed.Given as goal

-- the rest of the tables decides
abbrev pub invariant-loop-i : goal.invariant-loop-i
invariant-loop-i l = are_placed l.first (drop l.i l.tables) ≡ are_placed l.first l.tables

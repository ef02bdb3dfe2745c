use Rattle.m36_page.proofs.Placed.{placed_stop, placed_more, placed_done}
use Rattle.m36_page.proofs.table.are_placed.Goals as goal

pub returns-then-not-is_placed : goal.returns-then-not-is_placed
returns-then-not-is_placed c =
    placed_stop c.is_placed.result c.args.first c.args.tables.now c.tables_after.result.now c.loop-i.i c.index-tables-i.result _
    c.loop-i-test.true c.index-tables-i.is c.tables_after.ensures c.is_placed.ensures c.if-not-is_placed.true c.loop-i.invariant

pub loop-i-preserved : goal.loop-i-preserved
loop-i-preserved c =
    placed_more c.is_placed.result c.args.first c.args.tables.now c.tables_after.result.now c.loop-i.i c.index-tables-i.result _
    c.loop-i-test.true c.index-tables-i.is c.tables_after.ensures c.is_placed.ensures c.if-not-is_placed.false c.loop-i.invariant

pub returns : goal.returns
returns c = placed_done c.args.first c.args.tables.now c.loop-i.i _ c.loop-i-test.false c.loop-i.invariant

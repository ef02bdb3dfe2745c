use Rattle.std.proofs.Common.{◌+◌, length, arith}
use Rattle.m36_boot.specs.Image.{booted_tables}
use Rattle.m36_boot.proofs.ImageTables.{tables_more, tables_all}
use Rattle.m36_boot.proofs.tables.booted_tables.Goals as goal

pub loop-seg-preserved : goal.loop-seg-preserved
loop-seg-preserved c =
    let count = c.count-count.ensures.value in
    let inside = c.loop-seg-test.true in
    tables_more c.args.catalog.now c.args.files.now c.args.lay.now (64 + length c.args.catalog.now.segments) c.loop-seg.seg c.loop-seg.tables.items _ _
    (omega (arith, count, inside)) c.in_ok-add_table.ensures c.loop-seg.invariant

pub returns : goal.returns
unfolding booted_tables
returns c =
    let count = c.count-count.ensures.value in
    let past = c.loop-seg-test.false in
    tables_all c.args.catalog.now c.args.files.now c.args.lay.now (64 + length c.args.catalog.now.segments) c.loop-seg.seg c.loop-seg.tables.items _
    (omega (arith, count, past)) c.loop-seg.invariant

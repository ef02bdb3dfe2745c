use Rattle.std.proofs.Common.{subst}
use Rattle.m36_page.specs.Copied.{IsFilled}
use Rattle.m36_page.specs.Fields.{TableFields}
use Rattle.m36_page.specs.Residence.{absent_ptw}
use Rattle.m36_page.proofs.Lay.{absent_more}
use Rattle.m36_page.proofs.table.put_absent_tables.Goals as goal

pub loop-table-preserved : goal.loop-table-preserved
loop-table-preserved c =
    let P : TableFields → Type 0 = λ t. IsFilled t.at t.pages absent_ptw c.loop-table.core c.put_all_absent.new.core in
    absent_more c.args.tables.now c.loop-table.table-index c.args.core.now c.loop-table.core c.put_all_absent.new.core c.table-item.result
    c.loop-table-test.true c.table-item.is c.loop-table.invariant (subst P c.table.view_is c.put_all_absent.ensures)

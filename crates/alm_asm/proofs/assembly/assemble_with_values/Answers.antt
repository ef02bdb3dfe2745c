-- The object is that of the tables, or there are no tables.
use Rattle.alm_asm.proofs.AssemblyLaws.{tells_fault, tells_object}
use Rattle.alm_asm.proofs.assembly.assemble_with_values.Goals as goal

pub returns-in-Ok : goal.returns-in-Ok
returns-in-Ok c =
    tells_object c.args.lines.now c.text-text.result.now c.lines-rows.result.now c.in-Ok.tables c.object_with.result
    c.text-text.ensures c.lines-rows.ensures.value c.in-Ok.ensures.says c.object_with.ensures

pub returns-in-Err : goal.returns-in-Err
returns-in-Err c =
    tells_fault c.args.lines.now c.text-text.result.now c.lines-rows.result.now c.in-Err.fault
    c.text-text.ensures c.lines-rows.ensures.value c.in-Err.ensures.says

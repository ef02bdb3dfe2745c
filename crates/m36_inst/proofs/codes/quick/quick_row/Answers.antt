use Rattle.std.proofs.Common.{◌≡◌}
use Rattle.m36_inst.proofs.QuickRows.{found_row, found_quick}
use Rattle.m36_inst.proofs.codes.quick.quick_row.Goals as goal

pub returns-clause-value : goal.returns-clause-value
returns-clause-value c =
    let same : c.value.result ≡ c.args.word = c.value.ensures.value in
    rw same (found_row c.args.word c.parts-parts.result.now _ _ c.parts-parts.ensures)

pub returns-clause-parts : goal.returns-clause-parts
returns-clause-parts c =
    let same : c.value.result ≡ c.args.word = c.value.ensures.value in
    rw same (found_quick c.args.word c.parts-parts.result.now _ _ c.parts-parts.ensures)

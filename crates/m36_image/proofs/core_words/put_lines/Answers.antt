-- A line has a code, or none has and nothing is left.
use Rattle.std.proofs.Common.{◌≡◌, [], sym}
use Rattle.std.proofs.lemmas.Bool.{eqb-true}
use Rattle.m36_text.specs.Lines.{lines_of}
use Rattle.m36_text.proofs.Splitting.{lines_of_none}
use Rattle.m36_image.proofs.Placing.{placing_code, placing_fine, placing_done}
use Rattle.m36_image.proofs.core_words.put_lines.Goals as goal

pub returns-in-Err : goal.returns-in-Err
returns-in-Err c =
    placing_code c.args.core.now c.lines.core _ _ _ c.lines.number c.lines.next c.in-Some.line.now c.in-Err.code c.lines.invariant.placing c.in-Some.ensures.line (sym c.in-Err.ensures.end)

pub returns : goal.returns
returns c =
    let none : lines_of c.lines.rest.now ≡ [] = lines_of_none c.lines.rest.now (eqb-true _ 0 (sym c.lines-test.ensures)) in
    (placing_fine c.args.core.now c.lines.core _ _ c.lines.number c.lines.next c.lines.invariant.placing none, placing_done c.args.core.now c.lines.core _ _ c.lines.number c.lines.next c.lines.invariant.placing none)

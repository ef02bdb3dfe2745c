-- The rest of the list begins with the values of the line.
use Rattle.std.proofs.Common.{◌≡◌, ◌∷◌, ◌∙◌}
use Rattle.alm_lines.specs.Spots.{next_line_spot}
use Rattle.alm_asm.specs.LineValues.{values_of_line, values_from}
use Rattle.alm_asm.proofs.SeenLaws.{some_with, rest_of}
use Rattle.alm_asm.proofs.seen.next_with_args.Goals as goal

pub returns-clause-later : goal.returns-clause-later
unfolding values_from
returns-clause-later c =
    let text = c.args._text.now in
    let symbols = c.args._symbols.now in
    let links = c.args._links.now in
    let line = c.args._line.now in
    let first = values_of_line text symbols links c.args._spot line in
    let later = values_from text symbols links (next_line_spot text c.args._spot line) c.args._more.now in
    let is : c.args.left.now ≡ first ∷ later = c.requires.left ∙ some_with line.args first later c.requires.some in
    rest_of c.args.left.now later first is

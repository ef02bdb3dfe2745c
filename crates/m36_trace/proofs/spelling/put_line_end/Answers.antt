use Rattle.std.proofs.Common.{◌++◌, ◌∙◌, ap, take, arith}
use Rattle.m36_trace.proofs.FieldsPut.{letters_are}
use Rattle.m36_trace.proofs.spelling.put_line_end.Goals as goal

pub returns-clause-text : goal.returns-clause-text
returns-clause-text c =
    c.put_at.ensures 12 (omega arith)
    ∙ ap (λ l. take c.args.place c.args.into.now ++ l)
    (letters_are c.letter.result c.letter-2.result c.letter-3.result c.letter-4.result c.letter-5.result c.letter-6.result c.args.ind.now c.letter.ensures c.letter-2.ensures c.letter-3.ensures c.letter-4.ensures c.letter-5.ensures c.letter-6.ensures)

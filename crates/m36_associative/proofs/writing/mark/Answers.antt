use Rattle.m36_associative.proofs.writing.mark.Goals as goal

pub returns-clause-right : goal.returns-clause-right
returns-clause-right c = rw (c.poke.ensures, c.with_mark-marked.ensures, c.peek-word.ensures) (c.prepare_mark.ensures c.args.modified)

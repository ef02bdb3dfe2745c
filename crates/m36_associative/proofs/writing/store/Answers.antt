use Rattle.m36_associative.proofs.writing.store.Goals as goal

pub returns-clause-right : goal.returns-clause-right
returns-clause-right c = rw c.poke.ensures (c.prepare_write.ensures c.args.w)

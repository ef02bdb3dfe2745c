use Rattle.m36_trace.proofs.ByThrees.{digits_put, space_put}
use Rattle.m36_trace.proofs.triples.put_triple.Goals as goal

pub returns-clause-digits : goal.returns-clause-digits
returns-clause-digits c =
    digits_put c.args.place c.args.v c.args.into.now c.put_at.new.into c.triple.result.now c.put_at.ensures c.triple.ensures

pub returns-clause-space : goal.returns-clause-space
returns-clause-space c =
    space_put c.args.place c.args.v c.args.into.now c.put_at.new.into c.triple.result.now c.put_at.ensures c.triple.ensures

use Rattle.m36_trace.proofs.ByThrees.{half_put}
use Rattle.m36_trace.proofs.triples.put_half.Goals as goal

pub returns-clause-text : goal.returns-clause-text
returns-clause-text c =
    half_put c.args.place c.args.half c.args.into.now c.put_triple.new.into c.put_triple-2.new.into c.put_triple.ensures.digits c.put_triple-2.ensures.space

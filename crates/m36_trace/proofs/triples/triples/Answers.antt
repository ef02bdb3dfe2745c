use Rattle.m36_trace.proofs.ByThrees.{triples}
use Rattle.m36_trace.proofs.triples.triples.Goals as goal

pub returns : goal.returns
returns c = triples

use Rattle.m36_arith.proofs.Refusals.{refused_where_no_word}
use Rattle.m36_arith.proofs.divisions.division_law.Goals as goal

pub returns : goal.returns
returns c = refused_where_no_word

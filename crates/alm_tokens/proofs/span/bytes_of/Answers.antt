use Rattle.std.proofs.Common.{arith, length-drop}
use Rattle.std.proofs.lemmas.List.{length-take}
use Rattle.alm_tokens.proofs.span.bytes_of.Goals as goal

pub returns-then-count-rest-clause-ends : goal.returns-then-count-rest-clause-ends
returns-then-count-rest-clause-ends c = simp (length-take, length-drop) (omega arith)

pub returns-else-count-rest-clause-ends : goal.returns-else-count-rest-clause-ends
returns-else-count-rest-clause-ends c = simp (length-take, length-drop) (omega arith)

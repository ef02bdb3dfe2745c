use Rattle.std.proofs.Common.{◌≡◌, map, take}
use Rattle.alm_tokens.specs.Expressions.{term_of}
use Rattle.alm_tokens.proofs.expression.expr_of.Given as goal

abbrev pub invariant-loop-piece : goal.invariant-loop-piece
invariant-loop-piece l = l.expr ≡ map (term_of l.text) (take l.piece-index l.pieces)

use Rattle.std.proofs.Common.{◌≡◌, ◌≤◌, ◌-◌, ◌*◌, ◌^◌, length}
use Rattle.alm_lines.specs.Sums.{IsAtMost}
use Rattle.alm_lines.specs.Expressions.{with_terms, sum_of}
use Rattle.alm_lines.proofs.expression.sum_of.Given as goal

-- the sum so far with the rest added is the whole
abbrev pub invariant-loop-rest : goal.invariant-loop-rest
invariant-loop-rest l = record {
  left : length l.rest ≤ length l.terms;
  bound : IsAtMost ((length l.terms - length l.rest) * (2 ^ 96 - 1)) l.sum;
  whole : with_terms l.text l.symbols l.spot l.sum l.rest ≡ sum_of l.text l.symbols l.spot l.terms;
}

abbrev pub decreases-loop-rest : goal.decreases-loop-rest
decreases-loop-rest l = length l.rest

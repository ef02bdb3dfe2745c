use Rattle.std.proofs.Common.{◌≡◌, ◌+◌, ◌-◌, length, take, drop, arith, rules}
use Rattle.std.proofs.lemmas.Grind.{common_steps}
use Rattle.std.proofs.lemmas.List.{length-take, length-drop}
use Rattle.alm_lines.specs.Expressions.{with_terms}
use Rattle.alm_lines.proofs.SumLaws.{sum_more}
use Rattle.alm_lines.proofs.expression.sum_of.Goals as goal

-- one more term is added, and one fewer is left
pub loop-rest-preserved : goal.loop-rest-preserved
unfolding with_terms
loop-rest-preserved c =
    let rest = c.loop-rest.rest.now in
    let more = length (take (length rest - 1) (drop 1 rest)) in
    let one : length rest ≡ more + 1 = omega (arith, c.in-len1-up.len_at_least, length-drop 1 rest, length-take (length rest - 1) (drop 1 rest)) in
    record {
      left = omega arith;
      bound = sum_more (length c.args.terms.now) (length rest) more c.loop-rest.sum c.term_sum.result c.plus-sum.result one c.loop-rest.invariant.left c.loop-rest.invariant.bound c.term_sum.ensures.small c.plus-sum.ensures;
      whole = first_of (search rules, grind (arith, common_steps));
    }

use Rattle.std.proofs.Common.{not, below_more, ap, sym, ◌∙◌, arith}
use Rattle.m36_text.specs.Digits.{is_digit}
use Rattle.m36_text.specs.Reading.{first_non_digit}
use Rattle.m36_text.proofs.Places.{place_found, place_missing}
use Rattle.m36_text.proofs.reading.find_non_digit.Goals as goal

pub loop-place-preserved : goal.loop-place-preserved
loop-place-preserved c = below_more _ _ c.loop-place.invariant (ap not (sym c.is_digit.ensures ∙ c.if-not-is_digit.false))

pub returns-then-not-is_digit-clause-value : goal.returns-then-not-is_digit-clause-value
unfolding first_non_digit
returns-then-not-is_digit-clause-value c =
    sym (place_found (λ byte. not (is_digit c.args.base byte)) c.args.t.now c.loop-place.place c.loop-place-test.true c.loop-place.invariant (ap not (sym c.is_digit.ensures ∙ c.if-not-is_digit.true)))

pub returns-clause-value : goal.returns-clause-value
unfolding first_non_digit
returns-clause-value c =
    let past = c.loop-place-test.false in
    sym (place_missing (λ byte. not (is_digit c.args.base byte)) c.args.t.now (λ k below. c.loop-place.invariant k (omega arith)))

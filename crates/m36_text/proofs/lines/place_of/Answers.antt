use Rattle.std.proofs.Common.{◌==◌, below_more, eq-eqb, sym, arith}
use Rattle.std.proofs.lemmas.Bool.{ne_eqb}
use Rattle.m36_text.proofs.Places.{place_found, place_missing}
use Rattle.m36_text.proofs.lines.place_of.Goals as goal

pub loop-place-preserved : goal.loop-place-preserved
loop-place-preserved c = below_more _ _ c.loop-place.invariant (ne_eqb _ _ c.if-here-byte.false)

pub returns-then-here-byte-clause-place : goal.returns-then-here-byte-clause-place
returns-then-here-byte-clause-place c =
    sym (place_found (λ b. b == c.args.byte) c.args.text.now c.loop-place.place c.loop-place-test.true c.loop-place.invariant (eq-eqb _ _ c.if-here-byte.true))

pub returns-clause-place : goal.returns-clause-place
returns-clause-place c =
    let past = c.loop-place-test.false in
    sym (place_missing (λ b. b == c.args.byte) c.args.text.now (λ k below. c.loop-place.invariant k (omega arith)))

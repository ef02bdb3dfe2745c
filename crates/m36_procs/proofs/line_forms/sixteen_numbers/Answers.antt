-- Sixteen numbers were read, and there is one more; or one has another form; or all were read.
use Rattle.std.proofs.Common.{◌++◌, ◌∷◌, [], Some, sym, ap, ◌∙◌, arith, length-append}
use Rattle.std.specs.Option.{option_map}
use Rattle.m36_text.proofs.Splitting.{words_some}
use Rattle.m36_text.specs.Lines.{words_of}
use Rattle.m36_text.specs.Numbers.{short_decimal_in}
use Rattle.m36_image.proofs.SeveralLaws.{reading_more, reading_fails, reading_ends, reading_many, others_of, last_of}
use Rattle.m36_procs.proofs.line_forms.sixteen_numbers.Goals as goal

pub returns : goal.returns
returns c =
    sym (reading_many 16 (short_decimal_in 1 0 9) c.loop.order.items _ _ c.loop.invariant.reading (omega (arith, c.loop.invariant.count)) (words_some c.loop.rest.now))

pub returns-in_err-number : goal.returns-in_err-number
returns-in_err-number c =
    let begins = others_of c.first_word.result.1 (λ m. words_of m.now) (words_of c.loop.rest.now) c.first_word.result.0.now c.first_word.ensures in
    ap (option_map (λ v. v.items)) c.from_residual.ensures
    ∙ sym (reading_fails 16 (short_decimal_in 1 0 9) c.loop.order.items (words_of c.loop.rest.now) (words_of c.args.line.now) c.first_word.result.0.now begins.0
    c.loop.invariant.reading begins.1 (sym c.short_decimal_in.ensures.value ∙ c.in_err-number.was))

pub returns-in-None : goal.returns-in-None
returns-in-None c =
    let last = last_of c.first_word.result.1 (λ m. words_of m.now) (words_of c.loop.rest.now) c.first_word.result.0.now c.first_word.ensures c.in-None.is in
    let n = c.in_ok-number.number in
    ap (λ l. Some l) c.push.ensures.items
    ∙ reading_ends 16 (short_decimal_in 1 0 9) (c.loop.order.items ++ n ∷ []) (words_of c.args.line.now)
    (reading_more (short_decimal_in 1 0 9) c.loop.order.items (words_of c.loop.rest.now) (words_of c.args.line.now) c.first_word.result.0.now [] n
    c.loop.invariant.reading last (sym c.short_decimal_in.ensures.value ∙ c.in_ok-number.was))
    (omega (arith, length-append c.loop.order.items (n ∷ []))) (omega (arith, c.loop.invariant.count, c.loop-test.true, length-append c.loop.order.items (n ∷ [])))

-- Eight words were read, and there is one more; or one does not have its form; or all were read.
use Rattle.std.proofs.Common.{◌++◌, ◌∷◌, [], Some, sym, ap, ◌∙◌, arith, length-append}
use Rattle.std.specs.Option.{option_map}
use Rattle.m36_text.proofs.Splitting.{words_some}
use Rattle.m36_text.specs.Lines.{words_of}
use Rattle.m36_text.specs.Numbers.{octal_in}
use Rattle.m36_image.proofs.SeveralLaws.{reading_more, reading_fails, reading_ends, reading_many, others_of, last_of}
use Rattle.m36_image.proofs.placed.eight_words.Goals as goal

pub returns : goal.returns
returns c =
    sym (reading_many 8 (octal_in 12) c.loop.words.items _ _ c.loop.invariant.reading (omega (arith, c.loop.invariant.count)) (words_some c.loop.rest.now))

pub returns-in_err-octal_word : goal.returns-in_err-octal_word
returns-in_err-octal_word c =
    let begins = others_of c.first_word.result.1 (λ m. words_of m.now) (words_of c.loop.rest.now) c.first_word.result.0.now c.first_word.ensures in
    ap (option_map (λ v. v.items)) c.from_residual.ensures
    ∙ sym (reading_fails 8 (octal_in 12) c.loop.words.items (words_of c.loop.rest.now) (words_of c.args.line.now) c.first_word.result.0.now begins.0
    c.loop.invariant.reading begins.1 (sym c.octal_word.ensures ∙ c.in_err-octal_word.was))

pub returns-in-None : goal.returns-in-None
returns-in-None c =
    let last = last_of c.first_word.result.1 (λ m. words_of m.now) (words_of c.loop.rest.now) c.first_word.result.0.now c.first_word.ensures c.in-None.is in
    let n = c.in_ok-octal_word.field-0 in
    ap (λ l. Some l) c.push.ensures.items
    ∙ reading_ends 8 (octal_in 12) (c.loop.words.items ++ n ∷ []) (words_of c.args.line.now)
    (reading_more (octal_in 12) c.loop.words.items (words_of c.loop.rest.now) (words_of c.args.line.now) c.first_word.result.0.now [] n
    c.loop.invariant.reading last (sym c.octal_word.ensures ∙ c.in_ok-octal_word.was))
    (omega (arith, length-append c.loop.words.items (n ∷ []))) (omega (arith, c.loop.invariant.count, c.loop-test.true, length-append c.loop.words.items (n ∷ [])))

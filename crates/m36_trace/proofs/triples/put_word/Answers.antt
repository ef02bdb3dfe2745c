use Rattle.std.proofs.Common.{◌++◌, ◌∙◌, ap, take}
use Rattle.m36_text.specs.Digits.{word_text}
use Rattle.m36_trace.specs.Spaced.{with_space}
use Rattle.m36_trace.proofs.ByThrees.{word_put}
use Rattle.m36_trace.proofs.triples.put_word.Goals as goal

pub returns-clause-text : goal.returns-clause-text
returns-clause-text c =
    let start = c.args.into.now in
    word_put c.args.place c.value-v.result start c.put_triple.new.into c.put_triple-2.new.into c.put_triple-3.new.into c.put_triple-4.new.into c.put_triple.ensures.digits c.put_triple-2.ensures.digits c.put_triple-3.ensures.digits c.put_triple-4.ensures.space
    ∙ ap (λ w. take c.args.place start ++ with_space (word_text w)) c.value-v.ensures.value

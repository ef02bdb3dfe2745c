use Rattle.m36_list.proofs.PrintLines.{word_put, words_put}
use Rattle.m36_list.proofs.words.put_words.Goals as goal

pub loop-at-preserved : goal.loop-at-preserved
loop-at-preserved c = word_put c.loop-at.text c.put_word.new.text _ c.args.words.now c.loop-at.at c.index-words-at.result c.loop-at-test.true c.index-words-at.is c.in_ok-put_word.ensures c.loop-at.invariant

pub returns : goal.returns
returns c = words_put c.loop-at.text _ c.args.words.now c.loop-at.at c.loop-at-test.false c.loop-at.invariant

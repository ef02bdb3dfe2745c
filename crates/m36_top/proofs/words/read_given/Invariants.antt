use Rattle.std.proofs.Common.{◌≡◌, drop}
use Rattle.m36_top.specs.Words.{with_words, nothing_given}
use Rattle.m36_top.proofs.words.read_given.Given as goal

-- What is read so far, continued with the words that are left, is what all words give.
abbrev pub invariant-loop-word : goal.invariant-loop-word
invariant-loop-word l = with_words l.given (drop l.word-index l.words) ≡ with_words nothing_given l.words

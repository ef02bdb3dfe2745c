use Rattle.std.proofs.Common.{◌≡◌, ◌++◌, drop}
use Rattle.m36_list.specs.Print.{word_lines}
use Rattle.m36_list.proofs.words.put_words.Given as goal

-- the lines of the rest complete the whole
abbrev pub invariant-loop-at : goal.invariant-loop-at
invariant-loop-at l = l.text ++ word_lines l.at (drop l.at l.words) ≡ l.fn.text ++ word_lines 0 l.words

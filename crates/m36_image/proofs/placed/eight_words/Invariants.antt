use Rattle.std.proofs.Common.{◌≡◌, length}
use Rattle.m36_text.specs.Lines.{words_of}
use Rattle.m36_text.specs.Numbers.{octal_in}
use Rattle.m36_image.proofs.SeveralLaws.{Reading}
use Rattle.m36_image.proofs.placed.eight_words.Given as goal

abbrev pub invariant-loop : goal.invariant-loop
invariant-loop l = record {
  reading : Reading (octal_in 12) l.words.items (words_of l.rest) (words_of l.line);
  count : length l.words.items ≡ l.counter;
}

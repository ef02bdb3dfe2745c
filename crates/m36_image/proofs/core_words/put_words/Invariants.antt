use Rattle.std.proofs.Common.{◌≡◌, ◌+◌, length, drop}
use Rattle.m36_image.specs.ImageState.{written_at}
use Rattle.m36_image.proofs.core_words.put_words.Given as goal

abbrev pub invariant-loop-i : goal.invariant-loop-i
invariant-loop-i l = record {
  left : written_at l.core (l.first + l.i) (drop l.i l.words) ≡ written_at l.fn.core l.first l.words;
  len : length l.core ≡ length l.fn.core;
}

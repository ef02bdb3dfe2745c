use Rattle.std.proofs.Common.{◌≡◌, ◌++◌, ◌/◌, ◌%◌, length}
use Rattle.m36_text.specs.Packing.{words_of}
use Rattle.m36_text.proofs.packing.unpack_words.Given as goal

abbrev pub invariant-loop-rest : goal.invariant-loop-rest
invariant-loop-rest l = record {
  words : words_of (length l.t / 9) l.t ≡ l.words ++ words_of (length l.rest / 9) l.rest;
  left : length l.rest % 9 ≡ length l.t % 9;
}

abbrev pub decreases-loop-rest : goal.decreases-loop-rest
decreases-loop-rest l = length l.rest

use Rattle.std.proofs.Common.{◌≡◌, ◌-◌, ◌*◌, ◌<◌, ◌^◌, ◌++◌, length, take}
use Rattle.m36_model.specs.Results.{words_of_pairs}
use Rattle.m36_walk.specs.Runs.{IsInCore, words_from}
use Rattle.m36_walk.specs.Words.{with_pending}
use Rattle.m36_walk.proofs.words.block_with_pending.Given as goal

-- The pairs that were read, and the rest of the words, are the words of the block.
abbrev pub invariant-loop-i : goal.invariant-loop-i
invariant-loop-i l = record {
  words : words_from (with_pending l.core l.pending) l.a 16 ≡ words_of_pairs (take l.i l.pairs) ++ words_from (with_pending l.core l.pending) l.next (16 - 2 * l.i);
  lies : IsInCore (length l.core) l.next (16 - 2 * l.i);
  next : l.next < 2 ^ 24;
  count : length l.pairs ≡ 8;
}

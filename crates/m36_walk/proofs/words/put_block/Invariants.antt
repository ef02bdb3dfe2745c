use Rattle.std.proofs.Common.{◌≡◌, ◌-◌, ◌*◌, ◌<◌, ◌^◌, length, drop}
use Rattle.m36_associative.specs.Right.{AreCoherent}
use Rattle.m36_model.specs.Core.{core_put}
use Rattle.m36_model.specs.Results.{words_of_pairs}
use Rattle.m36_walk.specs.Runs.{IsInCore}
use Rattle.m36_walk.specs.Words.{run_changes}
use Rattle.m36_walk.proofs.words.put_block.Given as goal

-- Writing the rest of the words completes what was written.
abbrev pub invariant-loop-pair : goal.invariant-loop-pair
invariant-loop-pair l = record {
  put : core_put l.fn.core (run_changes l.a (words_of_pairs l.block)) ≡ core_put l.core (run_changes l.next (words_of_pairs (drop l.pair-index l.block)));
  lies : IsInCore (length l.core) l.next (16 - 2 * l.pair-index);
  next : l.next < 2 ^ 24;
  count : length l.block ≡ 8;
  len : length l.core ≡ length l.fn.core;
  right : AreCoherent l.core l.dbr l.memories;
}

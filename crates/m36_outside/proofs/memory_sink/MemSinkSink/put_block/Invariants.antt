use Rattle.std.proofs.Common.{◌≡◌, ◌++◌, ◌-◌, ◌≤◌, ◌<◌, ◌^◌, length, take, drop}
use Rattle.std.specs.Prelude.{Some}
use Rattle.m36_outside.specs.Passing.{joined}
use Rattle.m36_outside.specs.Written.{Grew}
use Rattle.m36_outside.specs.MemSink.{block_fails, after_block}
use Rattle.m36_outside.proofs.memory_sink.MemSinkSink.put_block.Given as goal

-- The first `place` pieces were put.
abbrev pub invariant-loop-place : goal.invariant-loop-place
invariant-loop-place l = record {
  says : Grew (Some l.fn.self.bytes) (Some l.self.bytes) (joined (take l.place l.block));
  took : l.self.pieces ≡ l.fn.self.pieces ++ take l.place l.block;
  faults : l.self.faults ≡ l.fn.self.faults;
  place : l.place ≤ length l.block;
  bound : 1 ≤ l.place → l.self.faults < 2 ^ 64;
  after : after_block l.fn.self l.block ≡ after_block l.self (drop l.place l.block);
  fails : block_fails l.fn.self l.block ≡ block_fails l.self (drop l.place l.block);
}

abbrev pub decreases-loop-place : goal.decreases-loop-place
decreases-loop-place l = length l.block - l.place

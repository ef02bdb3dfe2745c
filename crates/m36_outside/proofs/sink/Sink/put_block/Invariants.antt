use Rattle.std.proofs.Common.{◌≡◌, ◌++◌, ◌-◌, ◌≤◌, ◌<◌, ◌^◌, length, take}
use Rattle.m36_outside.specs.Passing.{joined}
use Rattle.m36_outside.specs.Written.{Grew}
use Rattle.m36_outside.proofs.sink.Sink.put_block.Given as goal

-- The first `place` pieces were put.
abbrev pub invariant-loop-place : goal.invariant-loop-place
invariant-loop-place g l = record {
  says : Grew (g.Self.Sink.written l.fn.self) (g.Self.Sink.written l.self) (joined (take l.place l.block));
  took : g.Self.Sink.taken l.self ≡ g.Self.Sink.taken l.fn.self ++ take l.place l.block;
  faults : g.Self.Sink.faults l.self ≡ g.Self.Sink.faults l.fn.self;
  place : l.place ≤ length l.block;
  bound : 1 ≤ l.place → g.Self.Sink.faults l.self < 2 ^ 64;
}

abbrev pub decreases-loop-place : goal.decreases-loop-place
decreases-loop-place g l = length l.block - l.place

use Rattle.std.proofs.Common.{◌-◌, ◌≡◌, ◌≤◌, Some, length, map, replicate, take}
use Rattle.m36_core.proofs.memory.clear.Given as goal

-- The slots before index i are filled.
abbrev pub invariant-loop-i : goal.invariant-loop-i
invariant-loop-i l = record {
  low : l.i ≤ l.count;
  at : l.cells.at ≡ l.fn.cells.at;
  size : length l.cells.slots ≡ l.count;
  filled : take l.i l.cells.slots ≡ map Some (replicate l.i 0);
}

abbrev pub decreases-loop-i : goal.decreases-loop-i
decreases-loop-i l = l.count - l.i

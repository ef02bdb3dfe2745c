use Rattle.std.proofs.Common.{◌-◌, ◌≡◌, ◌≤◌, Some, length, map, take}
use Rattle.m36_core.proofs.memory.fill.Given as goal

-- The slots before index i are filled.
abbrev pub invariant-loop-i : goal.invariant-loop-i
invariant-loop-i l = record {
  low : l.i ≤ length l.words;
  at : l.cells.at ≡ l.fn.cells.at;
  size : length l.cells.slots ≡ length l.words;
  filled : take l.i l.cells.slots ≡ map Some (take l.i l.words);
}

abbrev pub decreases-loop-i : goal.decreases-loop-i
decreases-loop-i l = length l.words - l.i

use Rattle.std.proofs.Common.{◌≡◌, map, take, length}
use Rattle.m36_xptr.specs.PointerPairs.{pointer_of_pair}
use Rattle.m36_xptr.proofs.registers.pointers.Given as goal

-- so far the pointers are those of the pairs
abbrev pub invariant-loop-n : goal.invariant-loop-n
invariant-loop-n l = record {
  count : length l.pointers ≡ 8;
  made : take l.n l.pointers ≡ map (pointer_of_pair l.ring) (take l.n l.block);
}

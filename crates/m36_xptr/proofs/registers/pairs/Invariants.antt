use Rattle.std.proofs.Common.{◌≡◌, map, take, length}
use Rattle.m36_xptr.specs.PointerPairs.{pair_of_pointer}
use Rattle.m36_xptr.proofs.registers.pairs.Given as goal

-- so far the pairs are those of the pointers
abbrev pub invariant-loop-n : goal.invariant-loop-n
invariant-loop-n l = record {
  count : length l.pairs ≡ 8;
  made : take l.n l.pairs ≡ map pair_of_pointer (take l.n l.pointers);
}

use Rattle.std.proofs.Common.{◌≡◌, length, map, take}
use Rattle.m36_model.specs.CallReturn.{pointer_in_ring}
use Rattle.m36_xfer.proofs.calls.all_in_ring.Given as goal

-- so far the pointers are in the ring
abbrev pub invariant-loop-n : goal.invariant-loop-n
invariant-loop-n l = record {
  count : length l.after ≡ 8;
  moved : take l.n l.after ≡ map (pointer_in_ring l.ring) (take l.n l.pointers);
}

use Rattle.std.proofs.Common.{ℕ, ◌<◌, ◌≤◌, ◌-◌, length}
use Rattle.m36_inst.specs.Names.{key_at}
use Rattle.m36_inst.proofs.lookup.place_of.Given as goal

-- the rows before `low` have smaller keys than `wanted`, and those from `high` on have greater ones
abbrev pub invariant-loop-low : goal.invariant-loop-low
invariant-loop-low l =
    record {
      order : l.low ≤ l.high;
      inside : l.high ≤ length l.rows;
      below : (i : ℕ) → i < l.low → key_at l.rows i < l.wanted;
      above : (i : ℕ) → l.high ≤ i → i < length l.rows → l.wanted < key_at l.rows i;
    }

abbrev pub decreases-loop-low : goal.decreases-loop-low
decreases-loop-low l = l.high - l.low

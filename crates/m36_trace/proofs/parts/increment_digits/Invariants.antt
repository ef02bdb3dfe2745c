use Rattle.std.proofs.Common.{◌+◌, ◌≤◌, take}
use Rattle.m36_trace.proofs.Numbers.{Carries}
use Rattle.m36_trace.proofs.parts.increment_digits.Given as goal

abbrev pub decreases-nines : goal.decreases-nines
decreases-nines l = l.place

abbrev pub invariant-nines : goal.invariant-nines
invariant-nines l = record {
  within : l.place ≤ l.last;
  carries : Carries (take (l.last + 2) l.bytes) l.place l._n;
}

use Rattle.std.proofs.Common.{◌≡◌, ◌-◌, length}
use Rattle.m36_boot.specs.Refusals.{first_gate_fault, AreLimits}
use Rattle.m36_boot.proofs.limits.limits_of.Given as goal

-- no gate so far has a fault, and these are the limits so far
abbrev pub invariant-loop-i : goal.invariant-loop-i
invariant-loop-i l = record {
  rest :
      first_gate_fault l.catalog l.files l.i (length l.catalog.segments - l.i)
      ≡ first_gate_fault l.catalog l.files 0 (length l.catalog.segments);
  limits : AreLimits l.catalog l.files l.i l.limits.items;
}

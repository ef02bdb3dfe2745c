use Rattle.std.proofs.Common.{◌≡◌, ◌+◌, ◌-◌, ◌*◌}
use Rattle.obj36_read.specs.LinkFaults.{first_bad_link}
use Rattle.obj36_read.proofs.linking.first_link_fault.Given as goal

-- the first of the rest is the first of all
abbrev pub invariant-loop : goal.invariant-loop
invariant-loop l = record {
  rest : first_bad_link l.k l.at l.expression (l.count - l.counter) ≡ first_bad_link l.k l.start l.expressions l.count;
  link : l.at ≡ l.start + 2 * l.counter;
  behind : l.expression ≡ l.expressions + 2 * l.counter;
}

use Rattle.std.proofs.Common.{◌≡◌, ◌+◌, ◌-◌, ◌*◌, ◌^◌, ◌<◌}
use Rattle.std.specs.Prelude.{IfSome}
use Rattle.obj36_read.specs.LinkFaults.{first_bad_type}
use Rattle.obj36_read.specs.TableFaults.{earlier, expression_count, first_expression}
use Rattle.obj36_read.proofs.linking.fault_of_types.Given as goal

-- what is found, and the rest
abbrev pub invariant-loop : goal.invariant-loop
invariant-loop l = record {
  rest : earlier l.found (first_bad_type l.version l.d (l.end - l.counter) l.at) ≡ first_bad_type l.version l.d (expression_count l.d) (first_expression l.d);
  near : l.at ≡ first_expression l.d + 2 * l.counter;
  bound : IfSome l.found (λ p. p < 2 ^ 20);
}

use Rattle.std.proofs.Common.{◌≡◌, ◌+◌, ◌-◌, ◌*◌, ◌^◌, ◌<◌}
use Rattle.std.specs.Prelude.{IfSome}
use Rattle.obj36_read.specs.TableFaults.{earlier, linked_names_fault, expression_count, first_expression}
use Rattle.obj36_read.proofs.spelling.fault_of_linked_names.Given as goal

-- what is found, and the rest
abbrev pub invariant-loop : goal.invariant-loop
invariant-loop l = record {
  rest : earlier l.found (linked_names_fault l.d (l.end - l.counter) l.at) ≡ linked_names_fault l.d (expression_count l.d) (first_expression l.d);
  near : l.at ≡ first_expression l.d + 2 * l.counter;
  bound : IfSome l.found (λ p. p < 2 ^ 20);
}

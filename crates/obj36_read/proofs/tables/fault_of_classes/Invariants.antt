use Rattle.std.proofs.Common.{◌≡◌, ◌-◌, ◌^◌, ◌<◌}
use Rattle.std.specs.Prelude.{IfSome}
use Rattle.obj36_read.specs.TableFaults.{earlier, first_bad_class, definition_count, first_definition}
use Rattle.obj36_read.proofs.tables.fault_of_classes.Given as goal

-- what is found, and the rest
abbrev pub invariant-loop : goal.invariant-loop
invariant-loop l = record {
  rest : earlier l.found (first_bad_class l.last l.d (l.end - l.counter) l.at) ≡ first_bad_class l.last l.d (definition_count l.d) (first_definition l.d);
  near : l.at < 2 ^ 18;
  bound : IfSome l.found (λ p. p < 2 ^ 20);
}

use Rattle.std.proofs.Common.{◌≡◌, ◌-◌, ◌^◌, ◌<◌}
use Rattle.std.specs.Prelude.{IfSome}
use Rattle.obj36_read.specs.TableFaults.{earlier, first_repeat, definition_count, first_definition}
use Rattle.obj36_read.specs.Repeated.{least_repeated_place}
use Rattle.obj36_read.proofs.repeats.find_repeats.Given as goal

-- what is found so far, what the rest has in common with the names before, and the rest
abbrev pub invariant-loop : goal.invariant-loop
invariant-loop l = record {
  rest :
      earlier l.found (earlier (least_repeated_place l.d l.places.entries (l.end - l.counter) l.at) (first_repeat l.d (l.end - l.counter) l.at))
      ≡ first_repeat l.d (definition_count l.d) (first_definition l.d);
  near : l.at < 2 ^ 18;
  bound : IfSome l.found (λ p. p < 2 ^ 20);
}

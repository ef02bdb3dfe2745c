use Rattle.std.proofs.Common.{◌≡◌, ◌+◌, ◌-◌, ◌*◌, ◌++◌}
use Rattle.obj36_read.specs.Reading.{definitions_in}
use Rattle.obj36_read.proofs.reading.read_definitions.Given as goal

-- the rest completes the table
abbrev pub invariant-loop : goal.invariant-loop
invariant-loop l = record {
  rest : l.found ++ definitions_in l.words l.at (l.count - l.counter) ≡ l.fn.found ++ definitions_in l.words 2 l.count;
  place : l.at ≡ 2 + 2 * l.counter;
}

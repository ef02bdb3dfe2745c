use Rattle.std.proofs.Common.{◌≡◌, ◌+◌, ◌-◌, ◌++◌}
use Rattle.obj36_read.specs.Reading.{relocations_in}
use Rattle.obj36_read.proofs.reading.read_relocations.Given as goal

-- the rest completes the table
abbrev pub invariant-loop : goal.invariant-loop
invariant-loop l = record {
  rest : l.found ++ relocations_in l.words l.at (l.count - l.counter) ≡ l.fn.found ++ relocations_in l.words 1 l.count;
  place : l.at ≡ 1 + l.counter;
}

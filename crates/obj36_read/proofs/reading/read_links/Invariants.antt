use Rattle.std.proofs.Common.{◌≡◌, ◌+◌, ◌-◌, ◌*◌, ◌++◌}
use Rattle.obj36_read.specs.Reading.{links_in}
use Rattle.obj36_read.proofs.reading.read_links.Given as goal

-- the rest completes the table
abbrev pub invariant-loop : goal.invariant-loop
invariant-loop l = record {
  rest : l.found ++ links_in l.words l.at l.linkage l.place (l.count - l.counter) ≡ l.fn.found ++ links_in l.words l.expressions l.linkage l.first l.count;
  expression : l.at ≡ l.expressions + 2 * l.counter;
  link : l.place ≡ l.first + 2 * l.counter;
}

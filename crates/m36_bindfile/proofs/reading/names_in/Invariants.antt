use Rattle.std.proofs.Common.{◌≡◌, [], length}
use Rattle.m36_bindfile.specs.BindFile.{with_components}
use Rattle.m36_bindfile.proofs.reading.names_in.Given as goal

-- the names of the lines that are left complete the whole, and the table has each name
abbrev pub invariant-loop-rest : goal.invariant-loop-rest
invariant-loop-rest l = record {
  whole : with_components l.names l.rest ≡ with_components [] l.lines;
  known : l.seen.keys ≡ l.names;
}

abbrev pub decreases-loop-rest : goal.decreases-loop-rest
decreases-loop-rest l = length l.rest

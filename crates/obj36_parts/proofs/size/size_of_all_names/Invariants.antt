use Rattle.std.proofs.Common.{◌≡◌, ◌≤◌, ◌+◌, ◌*◌, length}
use Rattle.obj36_parts.specs.Sizes.{total_names_size}
use Rattle.obj36_parts.proofs.size.size_of_all_names.Given as goal

-- the words so far, and those of the rest
abbrev pub invariant-loop-rest : goal.invariant-loop-rest
invariant-loop-rest l = record {
  all : l.total + total_names_size l.rest ≡ total_names_size l.names;
  small : l.total + 9 * length l.rest ≤ 9 * length l.names;
}

abbrev pub decreases-loop-rest : goal.decreases-loop-rest
decreases-loop-rest l = length l.rest

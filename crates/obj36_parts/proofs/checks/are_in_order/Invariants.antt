use Rattle.std.proofs.Common.{◌≡◌, length}
use Rattle.obj36_parts.specs.ObjectSegment.{are_rising}
use Rattle.obj36_parts.proofs.checks.are_in_order.Given as goal

-- the result is that for the rest
abbrev pub invariant-loop-rest : goal.invariant-loop-rest
invariant-loop-rest l = are_rising l.least l.barred l.rest ≡ are_rising 0 3 l.relocations

abbrev pub decreases-loop-rest : goal.decreases-loop-rest
decreases-loop-rest l = length l.rest

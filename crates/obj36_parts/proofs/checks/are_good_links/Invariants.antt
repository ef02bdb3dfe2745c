use Rattle.std.proofs.Common.{◌≡◌, length}
use Rattle.std.specs.List.{list_all}
use Rattle.obj36_parts.specs.ObjectSegment.{is_valid_link}
use Rattle.obj36_parts.proofs.checks.are_good_links.Given as goal

-- the result is that for the rest
abbrev pub invariant-loop-rest : goal.invariant-loop-rest
invariant-loop-rest l = list_all (is_valid_link l.version) l.rest ≡ list_all (is_valid_link l.version) l.links

abbrev pub decreases-loop-rest : goal.decreases-loop-rest
decreases-loop-rest l = length l.rest

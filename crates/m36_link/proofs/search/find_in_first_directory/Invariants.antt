use Rattle.std.proofs.Common.{◌≡◌, length}
use Rattle.std.specs.Prelude.{filter_map, slice_get}
use Rattle.m36_link.specs.Search.{find_in_directory}
use Rattle.m36_link.proofs.search.find_in_first_directory.Given as goal

-- the first of the rest is the first of all
abbrev pub invariant-loop-rest : goal.invariant-loop-rest
invariant-loop-rest l =
    slice_get (filter_map (find_in_directory l.catalog l.name) l.rest) 0 ≡ slice_get (filter_map (find_in_directory l.catalog l.name) l.directories) 0

abbrev pub decreases-loop-rest : goal.decreases-loop-rest
decreases-loop-rest l = length l.rest

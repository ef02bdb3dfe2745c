use Rattle.std.proofs.Common.{◌≡◌, [], length}
use Rattle.m36_bind.specs.Links.{links_from}
use Rattle.m36_bind.proofs.links.links.Given as goal

-- the rest completes the whole
abbrev pub invariant-loop-rest : goal.invariant-loop-rest
invariant-loop-rest l = links_from l.frame l.all l.out l.rest ≡ links_from l.frame l.all [] l.all

abbrev pub decreases-loop-rest : goal.decreases-loop-rest
decreases-loop-rest l = length l.rest

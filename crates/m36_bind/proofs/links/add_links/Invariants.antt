use Rattle.std.proofs.Common.{◌≡◌, length}
use Rattle.m36_bind.specs.Links.{links_onto}
use Rattle.m36_bind.proofs.links.add_links.Given as goal

-- the rest completes the whole
abbrev pub invariant-loop-rest : goal.invariant-loop-rest
invariant-loop-rest l = links_onto l.frame l.all l.p l.out l.rest ≡ links_onto l.frame l.all l.p l.fn.out l.links

abbrev pub decreases-loop-rest : goal.decreases-loop-rest
decreases-loop-rest l = length l.rest

use Rattle.m36_associative.proofs.Watching.{nothing_within}
use Rattle.m36_associative.proofs.watch.Watch.clear.Goals as goal

pub invariant_of-self : goal.invariant_of-self
invariant_of-self c = rw c.clear.ensures (nothing_within 4294967295 0)

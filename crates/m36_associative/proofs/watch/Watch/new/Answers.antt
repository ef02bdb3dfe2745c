use Rattle.m36_associative.proofs.Watching.{nothing_within}
use Rattle.m36_associative.proofs.watch.Watch.new.Goals as goal

pub invariant_of-result : goal.invariant_of-result
invariant_of-result c = rw c.new.ensures (nothing_within 4294967295 0)

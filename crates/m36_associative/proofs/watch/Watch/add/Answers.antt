use Rattle.m36_associative.proofs.Watching.{watched_added, watched_more, within_added}
use Rattle.m36_associative.proofs.watch.Watch.add.Goals as goal

pub invariant_of-self : goal.invariant_of-self
invariant_of-self c = rw c.push.ensures.items (within_added c.self.inside.places.items c.self.inside.low c.self.inside.high _ _ c.args.a c.self.invariant c.lower-self-inside.ensures.first c.lower-self-inside.ensures.second c.higher-self-inside.ensures.first c.higher-self-inside.ensures.second)

pub returns-clause-added : goal.returns-clause-added
returns-clause-added c = λ t. rw c.push.ensures.items (watched_added c.self.inside.places.items c.args.a)

pub returns-clause-more : goal.returns-clause-more
returns-clause-more c = λ b h. rw c.push.ensures.items (watched_more c.self.inside.places.items c.args.a b (rw c.self.view_is h))

use Rattle.m36_bind.proofs.ComponentLaws.{named_put}
use Rattle.m36_bind.proofs.placed.Components.add.Goals as goal

pub invariant_of-self-2 : goal.invariant_of-self-2
invariant_of-self-2 c =
    named_put c.self.inside.names.keys c.insert.new.self.keys c.self.inside.items.items c.reserve.new.self.items c.push_within_capacity.new.items.items c.args.self.now _
    c.copied.result c.self.invariant c.reserve.ensures.items c.push_within_capacity.ensures c.copied.ensures c.in_ok-insert.ensures.keys c.self.view_is c.requires.fresh

use Rattle.m36_acl.proofs.PlaceLaws.{place_put}
use Rattle.m36_acl.proofs.above.SegmentsAbove.add.Goals as goal

pub invariant_of-self-2 : goal.invariant_of-self-2
invariant_of-self-2 c =
    place_put c.self.inside.places.keys c.insert.new.self.keys c.self.inside.segments.items c.reserve.new.self.items c.push_within_capacity.new.segments.items
    c.args.self.now _ c.args.place c.self.invariant c.reserve.ensures.items c.push_within_capacity.ensures c.requires.place c.in_ok-insert.ensures.keys
    c.self.view_is c.requires.fresh

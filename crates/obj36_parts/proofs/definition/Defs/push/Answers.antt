use Rattle.obj36_parts.proofs.FirstLaws.{first_more}
use Rattle.obj36_parts.proofs.definition.Defs.push.Goals as goal

pub invariant_of-self-2 : goal.invariant_of-self-2
invariant_of-self-2 c =
    first_more c.self.inside.items.items c.reserve.new.self.items c.push_within_capacity.new.items.items c.self.inside.firsts.entries c.add_first_definition.new.firsts.entries c.args.x
    c.self.invariant c.reserve.ensures.items c.push_within_capacity.ensures c.in_ok-add_first_definition.ensures.ok

use Rattle.std.proofs.Common.{rules, ◌≡◌, length}
use Rattle.obj36_parts.proofs.IndexLaws.{indexed_more}
use Rattle.obj36_parts.proofs.link.Links.push.Goals as goal

pub invariant_of-self-2 : goal.invariant_of-self-2
invariant_of-self-2 c =
    let place : c.len.result ≡ length c.reserve.new.self.items = search rules in
    indexed_more c.self.inside.items.items c.reserve.new.self.items c.push_within_capacity.new.items.items c.self.inside.places.entries c.add_first_index.new.places.entries
    c.self.inside.names.keys c.reserve-2.new.self.keys c.add_names_of_link.new.names.keys c.args.x c.len.result c.self.invariant c.reserve.ensures.items c.push_within_capacity.ensures
    place c.in_ok-add_first_index.ensures.ok c.reserve-2.ensures.keys c.add_names_of_link.ensures

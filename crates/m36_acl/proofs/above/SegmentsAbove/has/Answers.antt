use Rattle.std.proofs.Common.{ap, ◌∙◌}
use Rattle.m36_acl.specs.AccessLists.{entries_of_lists}
use Rattle.m36_acl.proofs.PlaceLaws.{found}
use Rattle.m36_acl.proofs.above.SegmentsAbove.has.Goals as goal

pub returns : goal.returns
returns c =
    c.contains.ensures ∙ found c.args.place.now c.self.inside.places.keys c.args.self.now (c.self.invariant ∙ ap entries_of_lists c.self.view_is)

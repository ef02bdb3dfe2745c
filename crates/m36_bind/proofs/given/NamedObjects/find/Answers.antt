use Rattle.std.specs.Prelude.{option_map}
use Rattle.m36_bind.proofs.GivenLaws.{found_at}
use Rattle.m36_bind.proofs.given.NamedObjects.find.Goals as goal

pub returns : goal.returns
returns c =
    found_at c.args.self.now c.self.inside.names.now c.self.inside.objects.now c.self.inside.places.entries c.args.name.now c.index_of_name-place.result
    (option_map (λ o. o.now) c.object_at.result) c.self.view_is c.self.invariant c.index_of_name-place.ensures c.object_at.ensures

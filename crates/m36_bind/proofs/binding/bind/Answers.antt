use Rattle.m36_bindfile.specs.BindFile.{BindResult}
use Rattle.m36_bind.specs.Bound.{bound_object_of}
use Rattle.m36_bind.proofs.BindingLaws.{text_goes}
use Rattle.m36_bind.proofs.BoundMeans.{means_of}
use Rattle.m36_bind.proofs.binding.bind.Goals as goal

pub returns : goal.returns
returns c =
    let text = c.args.bindfile.now in
    let names = c.args.names.now in
    let objects = c.args.objects.now in
    let says : BindResult c.bound_object_of_lines.result (bound_object_of text names objects) =
    text_goes text names objects c.in_ok-given.given c.in_ok-lines.lines c.items.result.now c.bound_object_of_lines.result
    c.in_ok-lines.ensures.says c.items.ensures c.in_ok-given.ensures c.bound_object_of_lines.ensures
    in
    record { says = says; means = means_of text names objects c.bound_object_of_lines.result c.law_well_formed.ensures says }

use Rattle.std.proofs.Common.{drop, ◌+◌}
use Rattle.m36_bind.proofs.ObjectLoop.{object_more, objects_end, object_left, no_object_left}
use Rattle.m36_bind.proofs.binding.law_well_formed.Goals as goal

pub loop-object-init : goal.loop-object-init
loop-object-init c = λ are. are

pub loop-object-preserved : goal.loop-object-preserved
loop-object-preserved c =
    let objects = c.args.objects.now in
    let i = c.loop-object.object-index in
    object_more objects (drop i objects) (drop (i + 1) objects) c.object-item.result
    (object_left objects i c.object-item.result c.loop-object-test.true c.object-item.is) c.parts_are_well_formed.ensures c.loop-object.invariant

pub returns : goal.returns
returns c =
    let objects = c.args.objects.now in
    let i = c.loop-object.object-index in
    objects_end objects (drop i objects) (no_object_left objects i c.loop-object-test.false) c.loop-object.invariant

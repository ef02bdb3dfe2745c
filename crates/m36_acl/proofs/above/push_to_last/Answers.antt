use Rattle.std.proofs.Common.{◌-◌}
use Rattle.m36_acl.proofs.PlaceLaws.{places_kept}
use Rattle.m36_acl.proofs.above.push_to_last.Goals as goal

pub returns-in_err-push-clause-places : goal.returns-in_err-push-clause-places
returns-in_err-push-clause-places c =
    places_kept c.args.segments.now.items (c.len-place.result - 1) c.index_mut-last.result.now c.push.new.self
    c.index_mut-last.ensures.value c.push.ensures.dir c.push.ensures.name

pub returns-clause-places : goal.returns-clause-places
returns-clause-places c =
    places_kept c.args.segments.now.items (c.len-place.result - 1) c.index_mut-last.result.now c.push.new.self
    c.index_mut-last.ensures.value c.push.ensures.dir c.push.ensures.name

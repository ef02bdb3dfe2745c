-- The words are an object, or none.
use Rattle.m36_status.proofs.RuleLaws.{object_given, object_none}
use Rattle.m36_status.proofs.rules.object_in.Goals as goal

pub returns-in-Ok : goal.returns-in-Ok
returns-in-Ok c = object_given c.args.name.now c.args.words.now c.in-Ok.object c.in-Ok.ensures.object

pub returns-in-Err : goal.returns-in-Err
returns-in-Err c =
    object_none c.args.name.now c.args.words.now c.in-Err.fault c.refuse_object.result c.in-Err.ensures.object c.refuse_object.ensures

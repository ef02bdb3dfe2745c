-- The words were read, or not.
use Rattle.m36_files.proofs.FileLaws.{object_read, object_unread}
use Rattle.m36_files.proofs.objects.read_object.Goals as goal

pub returns-in-Ok : goal.returns-in-Ok
returns-in-Ok g c = λ may.
    object_read may c.args.name.now c.in-Ok.words c.slice.result.now c.object_in-given.result c.refusal_as_status.result _ _ (c.in-Ok.ensures.performs may) c.slice.ensures.value c.object_in-given.ensures c.refusal_as_status.ensures

pub returns-in-Err : goal.returns-in-Err
returns-in-Err g c = λ may.
    object_unread may c.args.name.now c.in-Err.status _ _ (c.in-Err.ensures.performs may)

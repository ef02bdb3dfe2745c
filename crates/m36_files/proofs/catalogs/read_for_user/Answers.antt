-- The access lists were read, or not.
use Rattle.m36_files.proofs.CatalogLaws.{rights_read, rights_unread}
use Rattle.m36_files.proofs.catalogs.read_for_user.Goals as goal

pub returns-in-Ok : goal.returns-in-Ok
returns-in-Ok g c = λ may.
    rights_read may c.args.user.now c.args.catalog c.in-Ok.lists c.access_with_lists-given.result c.refusal_as_status.result _ _ (c.in-Ok.ensures may) c.access_with_lists-given.ensures c.refusal_as_status.ensures

pub returns-in-Err : goal.returns-in-Err
returns-in-Err g c = λ may. rights_unread may c.args.user.now c.args.catalog c.in-Err.status _ _ (c.in-Err.ensures may)

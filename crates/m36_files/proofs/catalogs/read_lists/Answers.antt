-- The access lists were read, or not.
use Rattle.m36_files.proofs.CatalogLaws.{lists_read, lists_unread}
use Rattle.m36_files.proofs.catalogs.read_lists.Goals as goal

pub returns-in-Ok : goal.returns-in-Ok
returns-in-Ok g c = λ may.
    lists_read may c.args.catalog.now c.in-Ok.text c.bytes.result.now c.lists_in-given.result c.refusal_as_status.result _ _ (c.in-Ok.ensures.performs may) c.bytes.ensures c.lists_in-given.ensures c.refusal_as_status.ensures

pub returns-in-Err : goal.returns-in-Err
returns-in-Err g c = λ may. lists_unread may c.args.catalog.now c.in-Err.status _ _ (c.in-Err.ensures.performs may)

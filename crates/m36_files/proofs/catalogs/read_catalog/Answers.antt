-- The boot text was read, or not.
use Rattle.m36_files.proofs.CatalogLaws.{catalog_read, catalog_unread}
use Rattle.m36_files.proofs.catalogs.read_catalog.Goals as goal

pub returns-in-Ok : goal.returns-in-Ok
returns-in-Ok g c = λ may.
    catalog_read may c.in-Ok.text c.bytes.result.now c.catalog_in-given.result c.refusal_as_status.result _ _ (c.in-Ok.ensures.performs may) c.bytes.ensures c.catalog_in-given.ensures c.refusal_as_status.ensures

pub returns-in-Err : goal.returns-in-Err
returns-in-Err g c = λ may. catalog_unread may c.in-Err.status _ _ (c.in-Err.ensures.performs may)

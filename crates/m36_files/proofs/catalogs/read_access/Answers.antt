-- The boot text was read.
use Rattle.m36_files.proofs.CatalogLaws.{access_read}
use Rattle.m36_files.proofs.catalogs.read_access.Goals as goal

pub returns-in-Ok : goal.returns-in-Ok
returns-in-Ok g c = λ may.
    access_read may c.args.user.now c.in-Ok.catalog c.read_rights.result _ _ _ (c.in-Ok.ensures may) (c.read_rights.ensures may)

-- The catalog of the boot text, the access lists, and the catalog with the rights of a user.
use Rattle.std.specs.Prelude.{ℕ, List, Option, Some, None, Ok}
use Rattle.m36_dir.specs.Catalog.{CatalogFields, catalog_of}
use Rattle.m36_acl.specs.Fields.{AclSegmentFields}
use Rattle.m36_acl.specs.AccessLists.{lists_of}
use Rattle.m36_files.specs.declared.access.Access.{Access}
use Rattle.m36_files.specs.CatalogRules.{boot_name, catalog_or_refusal, acl_name, lists_or_refusal}
use Rattle.m36_files.specs.CatalogRules.{with_boot_text_rights, for_user}
use Rattle.m36_program.specs.Program.{May, Program, done, then_with}
use Rattle.m36_program.specs.Readers.{file_bytes}
use Rattle.m36_files.specs.Deciding.{rule_program}

-- the catalog of the boot text: F1, F2, D1 to D6
unfoldable pub boot_catalog : {may : May} → Program may CatalogFields
boot_catalog =
    then_with (file_bytes boot_name) (λ text. rule_program (catalog_or_refusal (catalog_of text)))

-- the access lists for a catalog: F1, F2, C1 to C3
unfoldable pub access_lists : {may : May} → CatalogFields → Program may (List AclSegmentFields)
access_lists catalog =
    then_with (file_bytes acl_name) (λ text. rule_program
    (lists_or_refusal catalog (lists_of text)))

-- A catalog with the rights that the access lists give to a user. With no user it keeps those of
-- the boot text, and the access lists are not read.
unfoldable pub catalog_with_rights :
    {may : May} → Option (List ℕ) → CatalogFields → Program may Access
catalog_with_rights None catalog = done (with_boot_text_rights catalog)
catalog_with_rights (Some user) catalog =
    then_with (access_lists catalog) (λ lists. rule_program (Ok (for_user user catalog lists)))

-- the catalog of the boot text, with the rights of a user if there is one
unfoldable pub catalog_access : {may : May} → Option (List ℕ) → Program may Access
catalog_access user = then_with boot_catalog (λ catalog. catalog_with_rights user catalog)

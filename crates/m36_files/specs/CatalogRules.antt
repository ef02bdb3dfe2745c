-- What the texts of a folder mean: the boot text, which describes a catalog, and for a user the
-- access lists, by which the segments get their rights.
use Rattle.std.specs.Prelude.{ℕ, List, [], codes, Option, Some, None, Result, Ok, Err}
pub use Rattle.m36_text.specs.FileNames.{boot_name}
use Rattle.m36_dir.specs.Catalog.{CatalogFields}
use Rattle.m36_dir.specs.declared.fault.CatalogFault.{CatalogFault}
use Rattle.m36_dir.specs.declared.fault.CatalogFault.TheVariants as catalog
use Rattle.m36_acl.specs.declared.fault.AclFault.{AclFault}
use Rattle.m36_acl.specs.declared.fault.AclFault.TheVariants as acl
use Rattle.m36_acl.specs.Fields.{AclSegmentFields}
use Rattle.m36_acl.specs.AccessLists.{Lists}
use Rattle.m36_acl.specs.Granted.{first_unknown, granted_catalog}
use Rattle.m36_acl.specs.AccessText.{denied_lines}
use Rattle.m36_files.specs.declared.access.Access.{Access}
use Rattle.m36_status.specs.declared.status.Code.{Code}
use Rattle.m36_status.specs.declared.status.Code.TheVariants as code
use Rattle.m36_status.specs.declared.refusal.Refusal.{Refusal}
use Rattle.m36_status.specs.declared.refusal.Refusal.TheVariants.{NoMemory}
use Rattle.m36_status.specs.Refusing.{RuleResult}
use Rattle.m36_status.specs.Rules.{file_refusal}

-- ---- the boot text: D1 to D6 at its line

-- the refusal of the boot text with a code, at a line or the number of a segment
abbrev pub boot_text_refusal : Code → ℕ → Refusal
boot_text_refusal code at = file_refusal boot_name code at

-- the refusal of a boot text that describes no catalog
abbrev pub catalog_refusal : CatalogFault → Refusal
catalog_refusal (catalog.D1 line) = boot_text_refusal code.D1 line
catalog_refusal (catalog.D2 line) = boot_text_refusal code.D2 line
catalog_refusal (catalog.D3 line) = boot_text_refusal code.D3 line
catalog_refusal (catalog.D4 line) = boot_text_refusal code.D4 line
catalog_refusal (catalog.D5 line) = boot_text_refusal code.D5 line
catalog_refusal (catalog.D6 line) = boot_text_refusal code.D6 line
catalog_refusal catalog.NoMemory = NoMemory

-- the catalog of the boot text, or its refusal
abbrev pub catalog_or_refusal : Result CatalogFields CatalogFault → RuleResult CatalogFields
catalog_or_refusal (Ok catalog) = Ok catalog
catalog_or_refusal (Err fault) = Err (catalog_refusal fault)

-- ---- the access lists: C1 and C2 at the first line that has one, and then C3 at the first line of
-- a segment that the boot text does not have

-- the name of the file with the access lists
abbrev pub acl_name : List ℕ
acl_name = codes "acl"

-- the refusal of the access lists with a code, at a line
abbrev pub acl_refusal : Code → ℕ → Refusal
acl_refusal code at = file_refusal acl_name code at

-- the refusal of a text that has no access lists: C1 or C2
abbrev pub lists_refusal : AclFault → Refusal
lists_refusal (acl.C1 line) = acl_refusal code.C1 line
lists_refusal (acl.C2 line) = acl_refusal code.C2 line
lists_refusal acl.NoMemory = NoMemory

-- the lists, or C3 at the first line that names no segment of the catalog, if there is one
abbrev pub lists_if_known : Lists → Option ℕ → RuleResult (List AclSegmentFields)
lists_if_known lists None = Ok lists
lists_if_known lists (Some line) = Err (acl_refusal code.C3 line)

-- The access lists for a catalog, from the result of parsing them: C1, C2 or C3 if they are
-- refused.
abbrev pub lists_or_refusal : CatalogFields → Result (List AclSegmentFields) AclFault
    → RuleResult (List AclSegmentFields)
lists_or_refusal catalog (Ok lists) = lists_if_known lists (first_unknown catalog lists)
lists_or_refusal catalog (Err fault) = Err (lists_refusal fault)

-- ---- the catalog with the rights of a user

-- a catalog with the rights of its boot text, without lines `denied`
abbrev pub with_boot_text_rights : CatalogFields → Access
with_boot_text_rights catalog = record { catalog = catalog; denied = [] }

-- a catalog with the rights that the lists give to a user, and the line `denied` of each segment
abbrev pub for_user : List ℕ → CatalogFields → Lists → Access
for_user user catalog lists = record {
  catalog = granted_catalog lists user catalog;
  denied = denied_lines lists user catalog;
}

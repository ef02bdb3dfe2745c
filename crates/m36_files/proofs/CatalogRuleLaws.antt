-- The catalog of the boot text and the access lists, or their refusals.
use Rattle.std.proofs.Common.{◌≡◌, List, Result, Ok, Err, sym, ap, subst}
use Rattle.m36_dir.specs.Catalog.{CatalogFields}
use Rattle.m36_dir.specs.Catalog as dir
use Rattle.m36_dir.specs.declared.fault.CatalogFault.{CatalogFault}
use Rattle.m36_dir.specs.declared.fault.CatalogFault.TheVariants as catalog
use Rattle.m36_acl.specs.Fields.{AclSegmentFields}
use Rattle.m36_acl.specs.AccessLists as lists
use Rattle.m36_acl.specs.declared.fault.AclFault.{AclFault}
use Rattle.m36_acl.specs.declared.fault.AclFault.TheVariants as acl
use Rattle.m36_acl.specs.Granted.{first_unknown}
use Rattle.m36_status.specs.declared.refusal.Refusal.{Refusal}
use Rattle.m36_status.specs.Refusing.{IsRuleResult, IsRuleRefusal}
use Rattle.m36_status.proofs.GivesLaws.{gives_by, memory_given}
use Rattle.m36_files.specs.CatalogRules.{catalog_refusal, catalog_or_refusal, lists_refusal, lists_if_known, lists_or_refusal}

-- ---- the catalog

pub catalog_given :
    (given : Result CatalogFields CatalogFault) (c : CatalogFields)
    → given ≡ Ok c → IsRuleResult (Ok c) (catalog_or_refusal given)
catalog_given given c is = ap catalog_or_refusal is

pub catalog_not :
    (given : Result CatalogFields CatalogFault) (fault : CatalogFault) (r : Refusal)
    → dir.RefusesWith fault given → IsRuleRefusal r (catalog_refusal fault) → IsRuleResult (Err r) (catalog_or_refusal given)
catalog_not given (catalog.D1 line) r told refuses = gives_by CatalogFields r (catalog_refusal (catalog.D1 line)) (catalog_or_refusal given) (ap catalog_or_refusal told) refuses
catalog_not given (catalog.D2 line) r told refuses = gives_by CatalogFields r (catalog_refusal (catalog.D2 line)) (catalog_or_refusal given) (ap catalog_or_refusal told) refuses
catalog_not given (catalog.D3 line) r told refuses = gives_by CatalogFields r (catalog_refusal (catalog.D3 line)) (catalog_or_refusal given) (ap catalog_or_refusal told) refuses
catalog_not given (catalog.D4 line) r told refuses = gives_by CatalogFields r (catalog_refusal (catalog.D4 line)) (catalog_or_refusal given) (ap catalog_or_refusal told) refuses
catalog_not given (catalog.D5 line) r told refuses = gives_by CatalogFields r (catalog_refusal (catalog.D5 line)) (catalog_or_refusal given) (ap catalog_or_refusal told) refuses
catalog_not given (catalog.D6 line) r told refuses = gives_by CatalogFields r (catalog_refusal (catalog.D6 line)) (catalog_or_refusal given) (ap catalog_or_refusal told) refuses
catalog_not given catalog.NoMemory r told refuses = memory_given CatalogFields r (catalog_or_refusal given) refuses

pub ruleset catalogs = (catalog_given, catalog_not)

-- ---- the access lists

pub lists_given :
    (c : CatalogFields) (given : Result (List AclSegmentFields) AclFault) (ls : List AclSegmentFields) (result : Result (List AclSegmentFields) Refusal)
    → given ≡ Ok ls → IsRuleResult result (lists_if_known ls (first_unknown c ls)) → IsRuleResult result (lists_or_refusal c given)
lists_given c given ls result is gives = subst (λ g. IsRuleResult result (lists_or_refusal c g)) (sym is) gives

pub lists_not :
    (c : CatalogFields) (given : Result (List AclSegmentFields) AclFault) (fault : AclFault) (r : Refusal)
    → lists.RefusesWith fault given → IsRuleRefusal r (lists_refusal fault) → IsRuleResult (Err r) (lists_or_refusal c given)
lists_not c given (acl.C1 line) r told refuses = gives_by (List AclSegmentFields) r (lists_refusal (acl.C1 line)) (lists_or_refusal c given) (ap (lists_or_refusal c) told) refuses
lists_not c given (acl.C2 line) r told refuses = gives_by (List AclSegmentFields) r (lists_refusal (acl.C2 line)) (lists_or_refusal c given) (ap (lists_or_refusal c) told) refuses
lists_not c given acl.NoMemory r told refuses = memory_given (List AclSegmentFields) r (lists_or_refusal c given) refuses

pub ruleset lists_said = (lists_given, lists_not)

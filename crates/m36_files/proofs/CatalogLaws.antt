-- The catalog of a boot text, and the access lists.
use Rattle.std.proofs.Common.{◌≡◌, ℕ, List, Option, Some, None, Result, Ok, Err, refl}
use Rattle.m36_dir.specs.Catalog.{CatalogFields, catalog_of}
use Rattle.m36_acl.specs.Fields.{AclSegmentFields}
use Rattle.m36_acl.specs.AccessLists.{lists_of}
use Rattle.m36_world.specs.Seen.{Seen}
use Rattle.m36_status.specs.declared.refusal.Refusal.{Refusal}
use Rattle.m36_status.specs.declared.status.Status.{Status}
use Rattle.m36_status.specs.Refusing.{IsRuleResult}
use Rattle.m36_files.specs.declared.access.Access.{Access}
use Rattle.m36_files.specs.CatalogRules.{boot_name, catalog_or_refusal, acl_name, lists_or_refusal, with_boot_text_rights, for_user}
use Rattle.m36_program.specs.Performs.{Performs}
use Rattle.m36_program.specs.Program.{May}
use Rattle.m36_program.specs.Readers.{file_bytes}
use Rattle.m36_program.proofs.Performing.{goes_done, performs_none, performs_then, performs_stop}
use Rattle.m36_files.specs.Deciding.{refusal_to_status}
use Rattle.m36_files.specs.Catalogs.{boot_catalog, access_lists, catalog_with_rights, catalog_access}
use Rattle.m36_files.proofs.DecidingLaws.{rule_after, rule_never}

-- ---- the boot text

pub catalog_read :
    (may : May) (bytes text : List ℕ) (given : Result CatalogFields Refusal) (result : Result CatalogFields Status) (old new : Seen)
    → Performs {may = may} (file_bytes boot_name) (Ok bytes) old new → text ≡ bytes
    → IsRuleResult given (catalog_or_refusal (catalog_of text)) → result ≡ refusal_to_status given
    → Performs {may = may} boot_catalog result old new
unfolding boot_catalog
catalog_read may bytes text given result old new performs same gives is =
    rule_after may (file_bytes boot_name) (λ b. catalog_or_refusal (catalog_of b)) bytes text given result old new performs same gives is

pub catalog_unread :
    (may : May) (s : Status) (old new : Seen) → Performs {may = may} (file_bytes boot_name) (Err s) old new
    → Performs {may = may} boot_catalog (Err s) old new
unfolding boot_catalog
catalog_unread may s old new performs = rule_never may (file_bytes boot_name) (λ b. catalog_or_refusal (catalog_of b)) s old new performs

pub ruleset catalogs = (catalog_read, catalog_unread)

-- ---- the access lists

pub lists_read :
    (may : May) (catalog : CatalogFields) (bytes text : List ℕ) (given : Result (List AclSegmentFields) Refusal)
    (result : Result (List AclSegmentFields) Status) (old new : Seen)
    → Performs {may = may} (file_bytes acl_name) (Ok bytes) old new → text ≡ bytes
    → IsRuleResult given (lists_or_refusal catalog (lists_of text)) → result ≡ refusal_to_status given
    → Performs {may = may} (access_lists catalog) result old new
unfolding access_lists
lists_read may catalog bytes text given result old new performs same gives is =
    rule_after may (file_bytes acl_name) (λ b. lists_or_refusal catalog (lists_of b)) bytes text given result old new performs same gives is

pub lists_unread :
    (may : May) (catalog : CatalogFields) (s : Status) (old new : Seen) → Performs {may = may} (file_bytes acl_name) (Err s) old new
    → Performs {may = may} (access_lists catalog) (Err s) old new
unfolding access_lists
lists_unread may catalog s old new performs =
    rule_never may (file_bytes acl_name) (λ b. lists_or_refusal catalog (lists_of b)) s old new performs

pub ruleset lists = (lists_read, lists_unread)

-- ---- rights

pub rights_as_given :
    (may : May) (catalog : CatalogFields) (seen : Seen)
    → Performs {may = may} (catalog_with_rights None catalog) (Ok (with_boot_text_rights catalog)) seen seen
unfolding catalog_with_rights
rights_as_given may catalog seen = performs_none _ (Ok (with_boot_text_rights catalog)) seen (goes_done may (with_boot_text_rights catalog))

pub rights_read :
    (may : May) (user : List ℕ) (catalog : CatalogFields) (lists : List AclSegmentFields) (given : Result Access Refusal)
    (result : Result Access Status) (old new : Seen)
    → Performs {may = may} (access_lists catalog) (Ok lists) old new
    → IsRuleResult given (Ok (for_user user catalog lists)) → result ≡ refusal_to_status given
    → Performs {may = may} (catalog_with_rights (Some user) catalog) result old new
unfolding catalog_with_rights
rights_read may user catalog lists given result old new performs gives is =
    rule_after may (access_lists catalog) (λ l. Ok (for_user user catalog l)) lists lists given result old new performs refl gives is

pub rights_unread :
    (may : May) (user : List ℕ) (catalog : CatalogFields) (s : Status) (old new : Seen)
    → Performs {may = may} (access_lists catalog) (Err s) old new
    → Performs {may = may} (catalog_with_rights (Some user) catalog) (Err s) old new
unfolding catalog_with_rights
rights_unread may user catalog s old new performs =
    rule_never may (access_lists catalog) (λ l. Ok (for_user user catalog l)) s old new performs

pub ruleset rights = (rights_as_given, rights_read, rights_unread)

-- ---- both

pub access_read :
    (may : May) (user : Option (List ℕ)) (catalog : CatalogFields) (result : Result Access Status) (old between new : Seen)
    → Performs {may = may} boot_catalog (Ok catalog) old between
    → Performs {may = may} (catalog_with_rights user catalog) result between new
    → Performs {may = may} (catalog_access user) result old new
unfolding catalog_access
access_read may user catalog result old between new first second =
    performs_then boot_catalog (catalog_with_rights user) catalog result old between new first second

pub access_unread :
    (may : May) (user : Option (List ℕ)) (s : Status) (old new : Seen)
    → Performs {may = may} boot_catalog (Err s) old new → Performs {may = may} (catalog_access user) (Err s) old new
unfolding catalog_access
access_unread may user s old new performs = performs_stop boot_catalog (catalog_with_rights user) s old new performs

pub ruleset accesses = (access_read, access_unread)

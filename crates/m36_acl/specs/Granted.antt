-- The rights that access lists give a user to the segments of a catalog.
use Rattle.std.specs.Prelude.{ℕ, ◌≡◌, Bool, not, List, [], map, find, slice_get, slice_set, Option}
use Rattle.std.specs.Prelude.{unwrap_or, option_map, IfSome}
use Rattle.std.specs.List.{list_any}
use Rattle.m36_dir.specs.Fields.{SegmentFields}
use Rattle.m36_dir.specs.BootOrder.{entry, is_same_entry}
use Rattle.m36_dir.specs.Catalog.{CatalogFields, directory_in, with_rights}
use Rattle.m36_acl.specs.declared.policy.Decision.{Decision}
use Rattle.m36_acl.specs.Fields.{AclSegmentFields}
use Rattle.m36_acl.specs.AccessLists.{Lists}
use Rattle.m36_acl.specs.Policy.{policy}

-- ---- segments of a catalog, named as in the boot text

-- the first name of a segment, which is that of its segment line
abbrev pub first_name_of : SegmentFields → List ℕ
first_name_of s = unwrap_or (slice_get s.names 0) []

-- ---- C3: a `segment` line that names no segment of the catalog

-- whether an access list is that of this segment of the catalog
abbrev pub is_list_for : CatalogFields → AclSegmentFields → SegmentFields → Bool
is_list_for catalog given s =
    is_same_entry (entry given.dir given.name)
    (entry (directory_in catalog.directories s) (first_name_of s))

-- whether the list is that of a segment of the catalog
abbrev pub is_in_catalog : CatalogFields → AclSegmentFields → Bool
is_in_catalog catalog given = list_any (is_list_for catalog given) catalog.segments

-- the first `segment` line that names no segment of the catalog
unfoldable pub first_unknown : CatalogFields → Lists → Option ℕ
first_unknown catalog lists =
    option_map (λ given. given.line) (find (λ given. not (is_in_catalog catalog given)) lists)

-- ---- rights

-- what a user may do with a segment of a catalog
unfoldable pub decision_on : Lists → List ℕ → List (List ℕ) → SegmentFields → Decision
decision_on lists user directories s =
    policy lists (directory_in directories s) (first_name_of s) user

-- a segment with the rights of a decision
abbrev pub with_decision : SegmentFields → Decision → SegmentFields
with_decision s d = with_rights s d.readable d.executable d.writable

-- Each segment gets exactly the rights to read, execute and write that the lists give the user,
-- whatever its mode in the boot text is. Nothing else changes, in particular not the right to be
-- privileged.
abbrev pub granted_segment : Lists → List ℕ → List (List ℕ) → SegmentFields → SegmentFields
granted_segment lists user directories s = with_decision s (decision_on lists user directories s)

-- the catalog in which each segment has the rights that the lists give to a user
unfoldable pub granted_catalog : Lists → List ℕ → CatalogFields → CatalogFields
granted_catalog lists user catalog =
    record catalog {
      segments = map (granted_segment lists user catalog.directories) catalog.segments;
    }

-- Segment i of a catalog gets its rights.
abbrev pub GrantsOne : Lists → List ℕ → CatalogFields → CatalogFields → ℕ → Type 0
GrantsOne lists user old new i =
    IfSome (slice_get old.segments i)
    (λ s. new ≡ record old
    { segments = slice_set old.segments i (granted_segment lists user old.directories s) })

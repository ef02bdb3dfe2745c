-- Laws of links, of the search and of laying.
use Rattle.std.specs.Prelude.{ℕ, ◌≡◌, ◌<◌, ◌≤◌, ◌+◌, ◌%◌, List, length, slice_get, slice_index}
use Rattle.std.specs.Prelude.{All, Some, Ok}
use Rattle.m36_model.specs.Fields.{AtFields}
use Rattle.m36_model.specs.Chain.{Its, indirect_kind, indirect_tag}
use Rattle.m36_model.specs.Faults.{fault_tag_2}
use Rattle.m36_model.specs.Modification.{Point, Fails, halt_at, move_of_point}
use Rattle.m36_model.specs.Registers.{RegsFields}
use Rattle.m36_dir.specs.Catalog.{CatalogFields}
use Rattle.obj36_parts.specs.Fields.{LinkFields}
use Rattle.obj36_parts.specs.ObjectSegment.{link_head, linkage_section, first_link, link_offset}
use Rattle.obj36_parts.specs.ObjectSegment.{segment_limit}
use Rattle.obj36_parts.specs.PartsFields.{PartsFields}
use Rattle.m36_link.specs.Fields.{PlacedSectionFields, KnownFields, SnapFields}
use Rattle.m36_link.specs.Known.{first_segment, catalog_number, index_in_catalog, object_in}
use Rattle.m36_link.specs.Known.{laid_words}
use Rattle.m36_link.specs.Links.{link_in}
use Rattle.m36_link.specs.Snap.{snap_of, outer_snap}
use Rattle.m36_link.specs.Accepted.{known_after, MayBeLaid}

-- The first word of a link that is not snapped has fault tag 2, whose fault calls for link
-- services: an address that reaches it ends there with this fault.
abbrev pub UnsnappedLinksFault : Type 0
UnsnappedLinksFault =
    (g : RegsFields) (p : Point) (at : ℕ) → p.tag ≡ indirect_tag (link_head at)
    → move_of_point g p ≡ Fails (halt_at fault_tag_2 p.carrier)

-- At the word where an object has a link, a service finds this link, wherever the section of the
-- object is laid. Until it is snapped, that word is the first word of a link.
pub record LinksFound : Type 0 where
  pub link :
      (files : List (List ℕ)) (l : PlacedSectionFields) (o : PartsFields) (i : ℕ)
      → object_in files l.seg ≡ Some o
      → link_in files (l.base + link_offset (first_link o) i) l ≡ slice_get o.links i
  pub head :
      (o : PartsFields) (i : ℕ) → i < length o.links
      → slice_index (linkage_section o) (link_offset (first_link o) i)
      ≡ link_head (link_offset (first_link o) i)

-- The number of a segment of the catalog leads back to its index.
abbrev pub NumbersAgree : Type 0
NumbersAgree = (i : ℕ) → index_in_catalog (catalog_number i) ≡ Some i

-- the number of a catalog segment
pub record IsOfCatalog (catalog : CatalogFields) (seg : ℕ) : Type 0 where
  pub from : first_segment ≤ seg
  pub below : seg < first_segment + length catalog.segments

-- A laid section is the whole section of an object of the catalog, begins at an even word, and is
-- within the linkage segment.
pub record IsWholeSection (catalog : CatalogFields) (files : List (List ℕ))
    (l : PlacedSectionFields) : Type 0 where
  pub segment : IsOfCatalog catalog l.seg
  pub object : PartsFields
  pub read : object_in files l.seg ≡ Some object
  pub even : l.base % 2 ≡ 0
  pub size : l.size ≡ length (laid_words object)
  pub end : l.base + l.size ≤ segment_limit

-- the invariant of what link services make known
pub record IsConsistent (catalog : CatalogFields) (files : List (List ℕ))
    (known : KnownFields) : Type 0 where
  pub names : All (λ e. IsOfCatalog catalog e.1) known.names
  pub laid : All (IsWholeSection catalog files) known.laid

-- The pair that replaces a link is at an even word and has the tag of its kind: an address that
-- reaches it reads it as an ITS pair.
abbrev pub PairsAreRead : Type 0
PairsAreRead =
    (known : KnownFields) (catalog : CatalogFields) (files : List (List ℕ)) (at : AtFields)
    (s : SnapFields) → IsConsistent catalog files known → snap_of known catalog files at ≡ Ok s
    → indirect_kind at.word s.pair.even ≡ Its

-- An answer to the link at a place may be accepted.
abbrev pub MayBeAccepted : Type 0
MayBeAccepted =
    (known : KnownFields) (catalog : CatalogFields) (files : List (List ℕ)) (at : AtFields)
    (s : SnapFields) → snap_of known catalog files at ≡ Ok s → MayBeLaid known s.lay

-- An answer to a link that is searched from a directory may be accepted.
abbrev pub MayBeAcceptedFrom : Type 0
MayBeAcceptedFrom =
    (known : KnownFields) (catalog : CatalogFields) (files : List (List ℕ)) (ring : ℕ)
    (link : LinkFields) (from : ℕ) (s : SnapFields)
    → outer_snap known catalog files ring link from ≡ Ok s → MayBeLaid known s.lay

-- Accepting an answer to the link at a place keeps `IsConsistent`.
abbrev pub KeepsConsistent : Type 0
KeepsConsistent =
    (known : KnownFields) (catalog : CatalogFields) (files : List (List ℕ)) (at : AtFields)
    (s : SnapFields) → IsConsistent catalog files known → snap_of known catalog files at ≡ Ok s
    → IsConsistent catalog files (known_after known s)

-- Accepting an answer to a link that is searched from a directory keeps `IsConsistent`.
abbrev pub KeepsConsistentFrom : Type 0
KeepsConsistentFrom =
    (known : KnownFields) (catalog : CatalogFields) (files : List (List ℕ)) (ring : ℕ)
    (link : LinkFields) (from : ℕ) (s : SnapFields)
    → IsConsistent catalog files known → outer_snap known catalog files ring link from ≡ Ok s
    → IsConsistent catalog files (known_after known s)

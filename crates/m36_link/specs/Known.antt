-- What link services have made known: the names that are initiated in each ring, and the sections
-- that are laid in it.
--
-- Catalog segment i has segment number 64 + i, and the linkage segment of ring r has 16 + r. Words
-- 0 to 1023 of a linkage segment are the linkage offset table of the ring. Sections are laid from
-- word 1024 on, one after another, each at an even word.
use Rattle.std.specs.Prelude.{ℕ, ◌+◌, ◌-◌, Bool, ◌&&◌, nat_eq, nat_le, if◌then◌else◌}
use Rattle.std.specs.Prelude.{List, [], ◌∷◌, ◌++◌, find, slice_get, Option, Some, None}
use Rattle.std.specs.Prelude.{option_and_then}
use Rattle.std.specs.Map.{lookup}
use Rattle.std.specs.Result.{result_ok}
use Rattle.m36_text.specs.Texts.{are_same}
use Rattle.m36_desc.specs.Access.{ring_at_most}
use Rattle.m36_desc.specs.Descriptors.{packed_word}
use Rattle.m36_dir.specs.Fields.{SegmentFields}
use Rattle.m36_dir.specs.Catalog.{CatalogFields}
use Rattle.obj36_parts.specs.PartsFields.{PartsFields}
use Rattle.obj36_parts.specs.ObjectSegment.{rounded_up_to_even, linkage_section, outer_statics}
use Rattle.obj36.specs.ObjectOf.{object_of}
use Rattle.m36_link.specs.Fields.{RingNameFields, PlacedSectionFields, NewSectionFields}
use Rattle.m36_link.specs.Fields.{KnownFields}

-- no names and no sections
abbrev pub nothing_known : KnownFields
nothing_known = record { names = []; laid = [] }

-- ---- numbers of segments

-- the number of the first segment of a catalog
abbrev pub first_segment : ℕ
first_segment = 64

-- the number of the linkage segment of ring 0
abbrev pub first_linkage : ℕ
first_linkage = 16

-- the number of the linkage segment of a ring
abbrev pub linkage_segment : ℕ → ℕ
linkage_segment ring = first_linkage + ring

-- the number of words of a linkage offset table
abbrev pub lot_words : ℕ
lot_words = 1024

-- the number of segment i of the catalog, counted from 0
abbrev pub catalog_number : ℕ → ℕ
catalog_number i = first_segment + i

-- the index in the catalog of a number from 64 on
abbrev pub catalog_index : ℕ → ℕ
catalog_index seg = seg - first_segment

-- the index in the catalog of the segment with a number; None below 64
unfoldable pub index_in_catalog : ℕ → Option ℕ
index_in_catalog seg = if nat_le first_segment seg then Some (catalog_index seg) else None

-- the segment of the catalog with a number, if there is one
unfoldable pub segment_of : CatalogFields → ℕ → Option SegmentFields
segment_of catalog seg = option_and_then (slice_get catalog.segments) (index_in_catalog seg)

-- the file of the segment with a number, if there is one
unfoldable pub file_of : List (List ℕ) → ℕ → Option (List ℕ)
file_of files seg = option_and_then (slice_get files) (index_in_catalog seg)

-- the object in the file of a segment
unfoldable pub object_in : List (List ℕ) → ℕ → Option PartsFields
object_in files seg = option_and_then (λ words. result_ok (object_of words)) (file_of files seg)

-- ---- names

-- the same name in the same ring
abbrev pub is_same_name : RingNameFields → RingNameFields → Bool
is_same_name a b = are_same a.name b.name && nat_eq a.ring b.ring

-- the number of the segment that is initiated under a name in a ring
unfoldable pub initiated_segment : List (RingNameFields × ℕ) → ℕ → List ℕ → Option ℕ
initiated_segment names ring name =
    lookup (is_same_name (record { ring = ring; name = name })) names

-- ---- sections

-- The ring in whose linkage segment a section is laid: the ring in which its segment runs for a
-- caller in the ring of the link.
abbrev pub section_ring : ℕ → SegmentFields → ℕ
section_ring ring s = ring_at_most s.r2 ring

-- the section is that of the segment in the ring
abbrev pub is_laid_of : ℕ → ℕ → PlacedSectionFields → Bool
is_laid_of ring seg l = nat_eq l.ring ring && nat_eq l.seg seg

-- the section of a segment that is laid in a ring
unfoldable pub laid_in : List PlacedSectionFields → ℕ → ℕ → Option PlacedSectionFields
laid_in laid ring seg = find (is_laid_of ring seg) laid

-- the first even word number after a section
unfoldable pub even_end : PlacedSectionFields → ℕ
even_end l = rounded_up_to_even (l.base + l.size)

-- the word number of the next section of a ring after section `l`, if it was `at` before
abbrev pub next_base_after : ℕ → ℕ → PlacedSectionFields → ℕ
next_base_after ring at l = if nat_eq l.ring ring then even_end l else at

-- the word number of the next section of a ring after these sections, if it was `at` before them
unfoldable pub next_base : ℕ → ℕ → List PlacedSectionFields → ℕ
next_base ring at [] = at
next_base ring at (l ∷ laid) = next_base ring (next_base_after ring at l) laid

-- the word number at which the next section of a ring is laid
abbrev pub next_base_in_ring : List PlacedSectionFields → ℕ → ℕ
next_base_in_ring laid ring = next_base ring lot_words laid

-- the words that are laid: the linkage section, and after it the static section, if there is one
unfoldable pub laid_words : PartsFields → List ℕ
laid_words o = linkage_section o ++ outer_statics o

-- The word of the linkage offset table for a section: a packed pointer to its first word.
unfoldable pub lot_word : NewSectionFields → ℕ
lot_word l = packed_word (linkage_segment l.ring) l.base

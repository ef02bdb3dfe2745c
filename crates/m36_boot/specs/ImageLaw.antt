-- What holds for the numbers of a booted image, and for the segments that may be started.
use Rattle.std.specs.Prelude.{◌≡◌, ℕ, ◌+◌, ◌<◌, ◌≤◌, true, not, List, slice_get, Option, Some}
use Rattle.std.specs.Prelude.{is_some, Ok}
use Rattle.m36_desc.specs.Access.{first_violation, fetch_rows}
use Rattle.m36_model.specs.Place.{ring_stack}
use Rattle.m36_model.specs.Modification.{ptr}
use Rattle.m36_model.specs.Pointers.{pointer}
use Rattle.m36_model.specs.Audit.{is_stack_of}
use Rattle.m36_model.specs.BootedCore.{booted_dbr, booted_segments}
use Rattle.m36_dir.specs.Fields.{SegmentFields}
use Rattle.m36_dir.specs.BootOrder.{most_segments}
use Rattle.m36_dir.specs.Catalog.{CatalogFields}
use Rattle.obj36_parts.specs.ObjectSegment.{linkage_register}
use Rattle.m36_link.specs.Fields.{NewSectionFields, SnapFields}
use Rattle.m36_link.specs.Known.{first_segment, linkage_segment, catalog_number}
use Rattle.m36_boot.specs.Segments.{stack_segment, stack_pages, linkage_pages, file_at}
use Rattle.m36_boot.specs.Segments.{ring_descriptor, catalog_descriptor, catalog_descriptor_at}
use Rattle.m36_boot.specs.Segments.{booted_sdw}
use Rattle.m36_boot.specs.Segments.{stack_words, linkage_words, booted_words}
use Rattle.m36_boot.specs.Start.{may_start, section_base, start_regs}

-- `stacks`, `descriptors`: the stack of a ring is the segment that the descriptor segment base
-- register of the image assigns to the ring, and its descriptor satisfies the audit condition on
-- stacks. `segments`: there are page tables for the numbers below those of the catalog, and for
-- the maximum number of segments of a catalog. `stack`, `stack_has`, `linkage`, `linkage_has`:
-- under the number of a ring's stack the image has the descriptor and the words of the stack of
-- that ring, and the same for linkage segments. `file`, `file_has`: under the number of a place of
-- the catalog it has the segment and the file of that place. `register`: in the registers of the
-- start the linkage register points to the section that is laid.
pub record ImageNumbersLaw : Type 0 where
  pub stacks : (ring : ℕ) → stack_segment ring ≡ ring_stack booted_dbr ring
  pub descriptors :
      (seg ring pages : ℕ) → is_stack_of ring (Ok (ring_descriptor seg ring pages)) ≡ true
  pub segments : booted_segments ≡ first_segment + most_segments
  pub stack :
      (catalog : CatalogFields) (files : List (List ℕ)) (ring : ℕ) → ring < 8
      → booted_sdw catalog files (stack_segment ring)
      ≡ Some (ring_descriptor (stack_segment ring) ring stack_pages)
  pub stack_has :
      (files : List (List ℕ)) (lay : Option NewSectionFields) (ring : ℕ) → ring < 8
      → booted_words files lay (stack_segment ring) ≡ stack_words ring
  pub linkage :
      (catalog : CatalogFields) (files : List (List ℕ)) (ring : ℕ) → ring < 8
      → booted_sdw catalog files (linkage_segment ring)
      ≡ Some (ring_descriptor (linkage_segment ring) ring linkage_pages)
  pub linkage_has :
      (files : List (List ℕ)) (lay : Option NewSectionFields) (ring : ℕ) → ring < 8
      → booted_words files lay (linkage_segment ring) ≡ linkage_words lay ring
  pub file :
      (catalog : CatalogFields) (files : List (List ℕ)) (i : ℕ)
      → booted_sdw catalog files (catalog_number i)
      ≡ catalog_descriptor_at (catalog_number i) (slice_get catalog.segments i) (file_at files i)
  pub file_has :
      (files : List (List ℕ)) (lay : Option NewSectionFields) (i : ℕ)
      → booted_words files lay (catalog_number i) ≡ file_at files i
  pub register :
      (ring : ℕ) (s : SnapFields)
      → ptr (start_regs ring s) linkage_register
      ≡ pointer (linkage_segment ring) ring (section_base s.lay)

-- A segment with its ring brackets in order may be started in a ring exactly if its descriptor
-- allows the fetch of an instruction in that ring.
abbrev pub MayStartLaw : Type 0
MayStartLaw =
    (s : SegmentFields) (ring seg : ℕ) (words : List ℕ) (limit : ℕ) → s.r1 ≤ s.r2 → s.r2 ≤ s.r3
    → may_start ring (Some s)
    ≡ not (is_some (first_violation (fetch_rows (catalog_descriptor seg s words limit) ring)))

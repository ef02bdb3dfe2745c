-- Where a booted machine starts, and its registers there.
use Rattle.std.specs.Prelude.{ℕ, Bool, false, ◌&&◌, nat_le, List, [], ◌∷◌}
use Rattle.std.specs.Prelude.{Option, Some, None, Result}
use Rattle.m36_desc.specs.Fields.{ItsFields}
use Rattle.m36_desc.specs.Descriptors.{its_of}
use Rattle.m36_model.specs.BootedCore.{booted_dbr}
use Rattle.m36_model.specs.Registers.{RegsFields}
use Rattle.m36_model.specs.Pointers.{pointer}
use Rattle.m36_model.specs.Results.{no_indicators}
use Rattle.m36_dir.specs.Fields.{SegmentFields}
use Rattle.m36_dir.specs.StartFields.{StartFields}
use Rattle.m36_dir.specs.Catalog.{CatalogFields}
use Rattle.obj36_parts.specs.Fields.{LinkFields}
use Rattle.obj36_parts.specs.ObjectSegment.{to_entry}
use Rattle.obj36_parts.specs.declared.section.Section.TheVariants.{Text}
use Rattle.m36_link.specs.Fields.{KnownFields, NewSectionFields, SnapFields}
use Rattle.m36_link.specs.Known.{nothing_known, linkage_segment}
use Rattle.m36_link.specs.Search.{search_result}
use Rattle.m36_link.specs.Snap.{RefusedFields, outer_snap}
use Rattle.m36_boot.specs.Segments.{stack_segment}

-- ---- the link to the start

-- the link to the start: to the name and the entry that the catalog gives
abbrev pub start_link : StartFields → LinkFields
start_link s =
    record {
      kind = to_entry;
      section = Text;
      name = s.name;
      entry = s.entry;
      expr = 0;
      modifier = 0;
    }

-- The result of a search for the start in its ring, from the working directory, where no ring
-- knows any name yet.
abbrev pub by_start : {A : Type 0} → (KnownFields → ℕ → LinkFields → ℕ → A) → CatalogFields → A
by_start search catalog =
    search nothing_known catalog.start.ring (start_link catalog.start) catalog.work

-- the answer to the link to the start, or its refusal
unfoldable pub start_answer : CatalogFields → List (List ℕ) → Result SnapFields RefusedFields
start_answer catalog files = by_start (λ known. outer_snap known catalog files) catalog

-- the number of the segment that is found
unfoldable pub start_segment : CatalogFields → Option ℕ
start_segment catalog =
    by_start (λ known ring link from. search_result known catalog ring link.name from) catalog

-- the segment may be executed in the ring of the start
abbrev pub may_start : ℕ → Option SegmentFields → Bool
may_start ring None = false
may_start ring (Some s) = s.mode.executable && nat_le s.r1 ring && nat_le ring s.r2

-- ---- registers

-- the place in its linkage segment of the linkage section of the start; 0 if there is none
abbrev pub section_base : Option NewSectionFields → ℕ
section_base None = 0
section_base (Some l) = l.base

-- the address of the entry of the start
abbrev pub entry_of : SnapFields → ItsFields
entry_of s = its_of s.pair.even s.pair.odd

-- PR4 points to the linkage section, PR6 to word 64 and PR7 to word 0 of the stack. Every pointer
-- register has the ring of the start. The instruction is at the entry. The descriptor segment base
-- register is that of every booted image, and everything else is zero.
unfoldable pub start_regs : ℕ → SnapFields → RegsFields
start_regs ring s =
    record {
      a = 0;
      q = 0;
      x = 0 ∷ 0 ∷ 0 ∷ 0 ∷ 0 ∷ 0 ∷ 0 ∷ 0 ∷ [];
      pr =
          pointer 0 ring 0 ∷ pointer 0 ring 0 ∷ pointer 0 ring 0 ∷ pointer 0 ring 0
          ∷ pointer (linkage_segment ring) ring (section_base s.lay)
          ∷ pointer 0 ring 0
          ∷ pointer (stack_segment ring) ring 64
          ∷ pointer (stack_segment ring) ring 0
          ∷ [];
      ind = no_indicators;
      ppr = record { psr = (entry_of s).seg; prr = ring; ic = (entry_of s).word };
      dbr = booted_dbr;
    }

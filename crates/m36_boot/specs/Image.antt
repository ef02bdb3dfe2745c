-- The parts of a booted image: each word of core, the pages, and the content of each segment.
use Rattle.std.specs.Prelude.{ℕ, zero, suc, ◌≡◌, ◌+◌, ◌-◌, ◌*◌, ◌/◌, ◌%◌, ◌<◌, ◌≤◌, nat_eq, nat_lt}
use Rattle.std.specs.Prelude.{if◌then◌else◌, true, List, [], ◌∷◌, ◌++◌, length, slice_index}
use Rattle.std.specs.Prelude.{Option, Some, None, unwrap_or}
use Rattle.std.specs.Prelude.{Result, Ok, Err}
use Rattle.m36_desc.specs.Fields.{SdwFields}
use Rattle.m36_desc.specs.Access.{has_ordered_brackets}
use Rattle.m36_desc.specs.Descriptors.{sdw_of, sdw_even, sdw_odd}
use Rattle.m36_model.specs.Place.{core_sdw, page_count}
use Rattle.m36_model.specs.BootedCore.{descriptor_words, booted_dbr, wired_frames, table_words}
use Rattle.m36_model.specs.BootedCore.{table_at}
use Rattle.m36_model.specs.BootedCore.{absent_ptw, IsPage, IsLaid}
use Rattle.m36_model.specs.Flat.{Flat}
use Rattle.m36_model.specs.Residence.{Paged, flat_of}
use Rattle.m36_dir.specs.Catalog.{CatalogFields}
use Rattle.m36_page.specs.declared.table.PageTable.{PageTable}
use Rattle.m36_page.specs.Fields.{PagerFields}
use Rattle.m36_page.specs.Given.{initial_pager}
use Rattle.m36_page.specs.Residence.{content_of, paged_by, has_page, spot_of, IsPager}
use Rattle.m36_boot.specs.declared.fault.BootFault.{BootFault}
use Rattle.m36_boot.specs.declared.image.Image.{Image}
use Rattle.m36_link.specs.Fields.{NewSectionFields, SnapFields}
use Rattle.m36_link.specs.Known.{first_segment, linkage_segment}
use Rattle.m36_boot.specs.Segments.{ring_descriptor, linkage_pages, booted_sdw, booted_words}
use Rattle.m36_boot.specs.Start.{start_regs}
use Rattle.m36_boot.specs.Refusals.{least_frames, ReportsFault, boot_answer}

-- ---- core

-- word 0 or 1 of a descriptor; zero if there is no segment
abbrev pub descriptor_word : ℕ → Option SdwFields → ℕ
descriptor_word half None = 0
descriptor_word half (Some d) = if nat_eq half 0 then sdw_even d else sdw_odd d

-- The pages of a segment are in no frame; a page table word without a page is zero.
abbrev pub page_table_word : ℕ → Option SdwFields → ℕ
page_table_word page None = 0
page_table_word page (Some d) = if nat_lt page (page_count d) then absent_ptw else 0

-- the word of the descriptor segment at a core address: descriptors one after another, of two words
-- each
abbrev pub described_word : CatalogFields → List (List ℕ) → ℕ → ℕ
described_word catalog files a = descriptor_word (a % 2) (booted_sdw catalog files (a / 2))

-- the word at a core address: descriptors, then page tables, and then empty frames
unfoldable pub booted_word : CatalogFields → List (List ℕ) → ℕ → ℕ
booted_word catalog files a =
    if nat_lt a descriptor_words then described_word catalog files a
    else if nat_lt a (1024 * wired_frames)
    then page_table_word ((a - descriptor_words) % table_words)
    (booted_sdw catalog files ((a - descriptor_words) / table_words))
    else 0

-- The words of a descriptor decode to that descriptor, and its brackets are in order.
pub record IsWellFormed (d : SdwFields) : Type 0 where
  pub back : sdw_of (sdw_even d) (sdw_odd d) ≡ d
  pub ordered : has_ordered_brackets d ≡ true

-- The descriptors of the segment numbers below `count` are written, and every other word is
-- unchanged.
pub record AreDescribed
    (catalog : CatalogFields) (files : List (List ℕ)) (count : ℕ) (old new : List ℕ)
    : Type 0 where
  pub size : length new ≡ length old
  pub written :
      (a : ℕ) → a < 2 * count
      → slice_index new a ≡ described_word catalog files a
  pub others : (a : ℕ) → 2 * count ≤ a → slice_index new a ≡ slice_index old a
  pub whole :
      (seg : ℕ) (d : SdwFields) → seg < count → booted_sdw catalog files seg ≡ Some d
      → IsWellFormed d

-- ---- pages

-- the page table of a segment with its words, as a list: empty if there is no segment
abbrev pub table_of_segment : ℕ → Option SdwFields → List ℕ → List PageTable
table_of_segment seg None words = []
table_of_segment seg (Some d) words =
    record { words = words; at = table_at seg; seg = seg; pages = page_count d } ∷ []

-- the page tables of n segment numbers from `seg` on
unfoldable pub tables_from :
    CatalogFields → List (List ℕ) → Option NewSectionFields → ℕ → ℕ → List PageTable
tables_from catalog files lay seg zero = []
tables_from catalog files lay seg (suc n) =
    table_of_segment seg (booted_sdw catalog files seg) (booted_words files lay seg)
    ++ tables_from catalog files lay (seg + 1) n

-- the page tables of all segments of the image, in the order of their numbers
unfoldable pub booted_tables :
    CatalogFields → List (List ℕ) → Option NewSectionFields → List PageTable
booted_tables catalog files lay =
    tables_from catalog files lay 0 (first_segment + length catalog.segments)

-- The content of a word of a segment: the word that is given, or zero after those in the segment's
-- last page; None past its pages.
abbrev pub content_by : Option SdwFields → List ℕ → ℕ → Option ℕ
content_by None words w = None
content_by (Some d) words w =
    if nat_lt (w / 1024) (page_count d) then Some (slice_index words w) else None

-- the content of a word of a segment of the image; None if it has no place
unfoldable pub booted_content :
    CatalogFields → List (List ℕ) → Option NewSectionFields → ℕ → ℕ → Option ℕ
booted_content catalog files lay seg w =
    content_by (booted_sdw catalog files seg) (booted_words files lay seg) w

-- ---- flat memory

-- n words of core from `a` on
unfoldable pub words_from : CatalogFields → List (List ℕ) → ℕ → ℕ → List ℕ
words_from catalog files a zero = []
words_from catalog files a (suc n) =
    booted_word catalog files a ∷ words_from catalog files (a + 1) n

-- The flat memory of the image: the descriptor segment, and the content of each word of each
-- segment; a word without a page is zero.
unfoldable pub booted_flat : CatalogFields → List (List ℕ) → SnapFields → Flat
booted_flat catalog files s =
    record {
      descriptors = words_from catalog files 0 descriptor_words;
      content = λ seg w. unwrap_or (booted_content catalog files s.lay seg w) 0;
    }

-- the image as a paged memory
abbrev pub paged_of : Image → Paged
paged_of image = paged_by image.core image.pager

-- ---- the image

-- A booted image for the answer `s` to the link to the start. No page is in a frame. Size, core,
-- pager and registers define the image; the content of its segments and the flat memory follow
-- from these.
pub record IsImage
    (catalog : CatalogFields) (files : List (List ℕ)) (s : SnapFields) (image : Image)
    : Type 0 where
  pub size : length image.core ≡ 1024 * (wired_frames + catalog.frames)
  pub core : (a : ℕ) → slice_index image.core a ≡ booted_word catalog files a
  pub pager :
      image.pager ≡ initial_pager wired_frames catalog.frames (booted_tables catalog files s.lay)
  pub regs : image.regs ≡ start_regs catalog.start.ring s
  -- what follows
  pub content :
      (seg w : ℕ)
      → content_of image.pager image.core seg w ≡ booted_content catalog files s.lay seg w
  pub flat : flat_of (paged_of image) ≡ booted_flat catalog files s

-- A core is laid out, and its pager has exactly the pages of its segments, each with its page
-- table word at its place. It has enough pageable frames for each instruction.
pub record HasPages (frames : ℕ) (core : List ℕ) (p : PagerFields) : Type 0 where
  pub some : least_frames ≤ frames
  pub laid : IsLaid core frames
  pub first : p.first ≡ wired_frames
  pub count : length p.holders ≡ frames
  pub pager : IsPager p
  pub serves : (seg page : ℕ) → IsPage core seg page → has_page p seg page ≡ true
  pub exact : (seg page : ℕ) → has_page p seg page ≡ true → IsPage core seg page
  pub at : (seg page : ℕ) → has_page p seg page ≡ true → spot_of p seg page ≡ table_at seg + page

-- The image can be run: it has its pages, and a whole linkage segment for each ring.
pub record IsRunnable (frames : ℕ) (image : Image) : Type 0 where
  pub dbr : image.regs.dbr ≡ booted_dbr
  pub pages : HasPages frames image.core image.pager
  pub linkage :
      (ring : ℕ) → ring < 8
      → core_sdw image.core booted_dbr (linkage_segment ring)
      ≡ Ok (ring_descriptor (linkage_segment ring) ring linkage_pages)

-- The result of `lay`: the image of the start, or the first fault; or NoMemory.
abbrev pub LayResult : CatalogFields → List (List ℕ) → Result Image BootFault → Type 0
LayResult catalog files (Ok image) =
    (boot_answer catalog files ≡ Ok image.snap) × IsImage catalog files image.snap image
LayResult catalog files (Err told) = ReportsFault told (boot_answer catalog files)

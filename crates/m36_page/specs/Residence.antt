-- Which frame each page is in, and what the words of the pages are: those of its frame if a page
-- is in one, and otherwise the kept words. The page table word names the frame.
use Rattle.std.specs.Prelude.{ℕ, ◌≡◌, ◌+◌, ◌*◌, ◌/◌, ◌^◌, ◌<◌, ◌≤◌, ◌⊎◌, Bool, true, false}
use Rattle.std.specs.Prelude.{nat_eq, nat_lt, if◌then◌else◌, List, length, position, slice_get}
use Rattle.std.specs.Prelude.{slice_index, slice_index_or, All, Option, Some, None, option_and_then}
use Rattle.std.specs.Bool.{then_some}
use Rattle.m36_desc.specs.Descriptors.{ptw_of}
use Rattle.m36_desc.specs.Fields.{PtwFields}
use Rattle.m36_model.specs.Place.{frame_named}
use Rattle.m36_model.specs.Core.{unmarked}
use Rattle.m36_model.specs.Residence.{Paged}
pub use Rattle.m36_model.specs.Residence.{word_in}
use Rattle.m36_page.specs.Fields.{TableFields, PagerFields}
pub use Rattle.m36_model.specs.BootedCore.{absent_ptw, resident_ptw}

-- ---- pages of tables

-- the table belongs to this segment
abbrev pub is_table_of : ℕ → TableFields → Bool
is_table_of seg t = nat_eq t.seg seg

-- the table of a segment, if it has one
unfoldable pub table_of : List TableFields → ℕ → Option TableFields
table_of tables seg = option_and_then (slice_get tables) (position (is_table_of seg) tables)

-- a segment with this table has this page
abbrev pub has_page_in : Option TableFields → ℕ → Bool
has_page_in None page = false
has_page_in (Some t) page = nat_lt page t.pages

-- the core address of the page table word of a page of a segment with this table
abbrev pub spot_in : Option TableFields → ℕ → ℕ
spot_in None page = 0
spot_in (Some t) page = t.at + page

-- the kept word for a word of a segment with this table
abbrev pub kept_in : Option TableFields → ℕ → ℕ
kept_in None w = 0
kept_in (Some t) w = slice_index t.words w

-- a segment has this page
unfoldable pub has_page : PagerFields → ℕ → ℕ → Bool
has_page p seg page = has_page_in (table_of p.tables seg) page

-- the core address of the page table word of a page
unfoldable pub spot_of : PagerFields → ℕ → ℕ → ℕ
spot_of p seg page = spot_in (table_of p.tables seg) page

-- the kept word for a word of a segment
unfoldable pub kept_word : PagerFields → ℕ → ℕ → ℕ
kept_word p seg w = kept_in (table_of p.tables seg) w

-- core, with the kept words of a pager
abbrev pub paged_by : List ℕ → PagerFields → Paged
paged_by core p = record { core = core; kept = kept_word p }

-- ---- page table words

-- the frame that a page table word names, if its page is in one
abbrev pub frame_by : PtwFields → Option ℕ
frame_by ptw = if ptw.f then Some (frame_named ptw) else None

-- the frame that is encoded in a page table word, if any
unfoldable pub frame_in : ℕ → Option ℕ
frame_in w = frame_by (ptw_of w)

-- the frame that a page is in, if any
unfoldable pub frame_of : PagerFields → List ℕ → ℕ → ℕ → Option ℕ
frame_of p core seg page = frame_in (slice_index core (spot_of p seg page))

-- ---- content

-- the word of a segment, from its frame or from the kept words
unfoldable pub page_word : PagerFields → List ℕ → ℕ → ℕ → ℕ
page_word p core seg w = word_in (frame_of p core seg (w / 1024)) core w (kept_word p seg w)

-- the content of a word of a segment; None if the segment has no table or the word is past its
-- pages
unfoldable pub content_of : PagerFields → List ℕ → ℕ → ℕ → Option ℕ
content_of p core seg w = then_some (has_page p seg (w / 1024)) (page_word p core seg w)

-- ---- the invariant of a pager and its core

-- frame k holds this page
abbrev pub Holds : PagerFields → ℕ → ℕ → ℕ → Type 0
Holds p k seg page = slice_index_or p.holders k None ≡ Some (seg, page)

-- Tables have kept words for all their pages, end below the pageable frames and share no core
-- word; the page that a frame holds is one of a table.
pub record IsPager (p : PagerFields) : Type 0 where
  pub words : All (λ t. length t.words ≡ 1024 * t.pages) p.tables
  pub below : (seg page : ℕ) → has_page p seg page ≡ true → spot_of p seg page < 1024 * p.first
  pub apart : (seg page seg' page' : ℕ) → has_page p seg page ≡ true → has_page p seg' page' ≡ true
      → spot_of p seg page ≡ spot_of p seg' page' → (seg ≡ seg') × (page ≡ page')
  pub held : (k seg page : ℕ) → Holds p k seg page → has_page p seg page ≡ true

-- A page table word, except for its marks, is that of a page in no frame, or names the frame that
-- holds the page.
abbrev pub NamesFrame : PagerFields → ℕ → ℕ → ℕ → Type 0
NamesFrame p seg page w =
    (unmarked w ≡ absent_ptw)
    ⊎ ((k : ℕ) × Holds p k seg page × (unmarked w ≡ resident_ptw (p.first + k)))

-- Each page table word of the tables is as the pager left it, except for its marks.
pub record AgreesWithCore (p : PagerFields) (core : List ℕ) : Type 0 where
  pub pages : (seg page : ℕ) → has_page p seg page ≡ true
      → NamesFrame p seg page (slice_index core (spot_of p seg page))
  pub frames : (k seg page : ℕ) → Holds p k seg page
      → unmarked (slice_index core (spot_of p seg page)) ≡ resident_ptw (p.first + k)

-- each table ends below frame `first`
abbrev pub AllEndBelow : ℕ → List TableFields → Type 0
AllEndBelow first tables = All (λ t. t.at + t.pages ≤ 1024 * first) tables

-- the core has all pageable frames
abbrev pub HasFrames : PagerFields → List ℕ → Type 0
HasFrames p core = 1024 * (p.first + length p.holders) ≤ length core

-- The invariant of a pager and its core, before and after each call: the tables are sound, the page
-- table words are as the pager left them, and core has all pageable frames and 24-bit addresses.
pub record IsConsistent (p : PagerFields) (core : List ℕ) : Type 0 where
  pub pager : IsPager p
  pub reads : AgreesWithCore p core
  pub frames : HasFrames p core
  pub most : length core ≤ 2 ^ 24

-- The invariant of a pager with its private list: `places` has the core address of the page table
-- word of each frame's page.
pub record HasPtwPlaces (p : PagerFields) (places : List ℕ) : Type 0 where
  pub pager : IsPager p
  pub count : length places ≡ length p.holders
  pub spots : (k seg page : ℕ) → Holds p k seg page → slice_index places k ≡ spot_of p seg page

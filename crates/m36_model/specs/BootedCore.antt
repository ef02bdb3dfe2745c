-- A booted image in core: the descriptor segment at word 0, then the page table of each segment,
-- then frames, each with at most one page of one segment.
use Rattle.std.specs.Prelude.{◌≡◌, ◌≢◌, ℕ, ◌+◌, ◌*◌, ◌^◌, ◌<◌, ◌≤◌, ◌⊎◌, true, false, List}
use Rattle.std.specs.Prelude.{length, slice_index, Ok, Err}
use Rattle.m36_word.specs.Field.{frames_reached}
use Rattle.m36_desc.specs.Fields.{SdwFields, DbrFields}
use Rattle.m36_desc.specs.Access.{has_ordered_brackets}
use Rattle.m36_model.specs.Faults.{missing_page}
use Rattle.m36_model.specs.Place.{core_sdw, last_page}
use Rattle.m36_model.specs.Core.{unmarked}
use Rattle.m36_model.specs.declared.outcome.Refusal.{Refusal}

-- the number of words of the descriptor segment, which is unpaged and begins at core address 0
abbrev pub descriptor_words : ℕ
descriptor_words = 2048

-- the DBR of a booted image: 2,048 words, and the stacks are segments 8 to 15
abbrev pub booted_dbr : DbrFields
booted_dbr = record { addr = 0; bnd = 127; unpaged = true; stack = 1 }

-- the number of words of a page table: the most pages that a segment can have
abbrev pub table_words : ℕ
table_words = 256

-- the number of segments that have page tables, which are consecutive in core
abbrev pub booted_segments : ℕ
booted_segments = 576

-- the core address of the page table of a segment
abbrev pub table_at : ℕ → ℕ
table_at seg = descriptor_words + table_words * seg

-- the number of frames of the descriptor segment and the page tables; pageable frames follow them
abbrev pub wired_frames : ℕ
wired_frames = 146

-- the PTW of a page in a frame, without marks
abbrev pub resident_ptw : ℕ → ℕ
resident_ptw frame = 16 * frame * 2 ^ 18 + 4

-- the PTW of a page that is in no frame: F is off, directed fault 1
abbrev pub absent_ptw : ℕ
absent_ptw = 1

-- a live descriptor of a booted image
pub record IsLaidSegment (seg : ℕ) (d : SdwFields) : Type 0 where
  pub number : seg < booted_segments
  pub paged : d.unpaged ≡ false
  pub table : d.addr ≡ table_at seg
  pub size : last_page d < table_words
  pub ordered : has_ordered_brackets d ≡ true

-- a page that begins within the bound of a live segment
pub record IsPage (core : List ℕ) (seg page : ℕ) : Type 0 where
  pub sdw : SdwFields
  pub live : core_sdw core booted_dbr seg ≡ Ok sdw
  pub begins : page ≤ last_page sdw

-- the PTW of a page, without its marks
abbrev pub page_word : List ℕ → ℕ → ℕ → ℕ
page_word core seg page = unmarked (slice_index core (table_at seg + page))

-- the frame is one of `frames` pageable frames
abbrev pub IsPageable : ℕ → ℕ → Type 0
IsPageable frames frame = (wired_frames ≤ frame) × (frame < wired_frames + frames)

-- the page is in this pageable frame
pub record IsInFrame (core : List ℕ) (frames seg page frame : ℕ) : Type 0 where
  pub word : page_word core seg page ≡ resident_ptw frame
  pub pageable : IsPageable frames frame

-- the core of a booted image with `frames` pageable frames, at any time before ring 0 loads another
-- DBR
pub record IsLaid (core : List ℕ) (frames : ℕ) : Type 0 where
  pub size : length core ≡ 1024 * (wired_frames + frames)
  pub most : wired_frames + frames ≤ frames_reached
  pub segments :
      (seg : ℕ) (d : SdwFields) → core_sdw core booted_dbr seg ≡ Ok d → IsLaidSegment seg d
  -- a descriptor that is not live has another fault than a page that is in no frame
  pub dead :
      (seg : ℕ) (why : Refusal) → core_sdw core booted_dbr seg ≡ Err why
      → why.number ≢ missing_page
  pub pages :
      (seg page : ℕ) → IsPage core seg page
      → (page_word core seg page ≡ absent_ptw) ⊎
      ((frame : ℕ) × IsInFrame core frames seg page frame)
  -- a frame has at most one page
  pub apart :
      (seg page seg' page' frame : ℕ) → IsPage core seg page → IsPage core seg' page'
      → page_word core seg page ≡ resident_ptw frame
      → page_word core seg' page' ≡ resident_ptw frame → (seg ≡ seg') × (page ≡ page')

-- Residence: a page of a booted image is in a frame of core, or its words are kept elsewhere. The
-- content of the image is the same in both cases.
use Rattle.std.specs.Prelude.{◌≡◌, ℕ, ◌+◌, ◌*◌, ◌/◌, ◌%◌, ◌==◌, if◌then◌else◌, List}
use Rattle.std.specs.Prelude.{length, take, slice_index, Option, Some, None, Result, Ok, Err}
use Rattle.m36_model.specs.Faults.{missing_page_code, missing_page}
use Rattle.m36_model.specs.Store.{Spot, place}
use Rattle.m36_model.specs.Place.{directed_refusal}
use Rattle.m36_model.specs.Core.{core_store, core_word}
use Rattle.m36_model.specs.Flat.{Flat}
use Rattle.m36_model.specs.BootedCore.{descriptor_words, booted_dbr, IsPageable, resident_ptw}
use Rattle.m36_model.specs.BootedCore.{absent_ptw, IsPage, page_word}
use Rattle.m36_model.specs.declared.outcome.Refusal.{Refusal}
use Rattle.m36_model.specs.declared.place.Reference.{Reference}

-- core, and the kept words of pages that are in no frame, by segment and word number
pub record Paged : Type 0 where
  pub core : List ℕ
  pub kept : ℕ → ℕ → ℕ

-- the refusal of a word whose page is in no frame
abbrev pub absence : Refusal
absence = directed_refusal missing_page_code

-- The content of a word by its place: the word in core, or its kept word if its page is in no
-- frame. It is 0 if the word has no place for another reason.
abbrev pub word_at : Paged → ℕ → ℕ → Result Spot Refusal → ℕ
word_at m seg w (Ok spot) = core_word m.core spot
word_at m seg w (Err why) = if why.number == missing_page then m.kept seg w else 0

-- the content of word w of a segment of the booted image
unfoldable pub paged_content : Paged → ℕ → ℕ → ℕ
paged_content m seg w = word_at m seg w (place core_store m.core booted_dbr seg w)

-- the flat memory that core and the kept words represent
unfoldable pub flat_of : Paged → Flat
flat_of m = record { descriptors = take descriptor_words m.core; content = paged_content m }

-- the page of a word is in no frame
abbrev pub PageIsAbsent : List ℕ → ℕ → ℕ → Type 0
PageIsAbsent core seg w = place core_store core booted_dbr seg w ≡ Err absence

-- the PTW of a page, without marks, by its frame if it is in one
abbrev pub ptw_of_page : Option ℕ → ℕ
ptw_of_page None = absent_ptw
ptw_of_page (Some frame) = resident_ptw frame

-- `frame_of` is the frame of each page, as its PTW says: a pageable frame, and no frame has two
-- pages.
pub record IsResidence (core : List ℕ) (frames : ℕ) (frame_of : ℕ → ℕ → Option ℕ) : Type 0 where
  pub words :
      (seg page : ℕ) → IsPage core seg page
      → page_word core seg page ≡ ptw_of_page (frame_of seg page)
  pub range :
      (seg page frame : ℕ) → frame_of seg page ≡ Some frame → IsPageable frames frame
  pub one :
      (seg page seg' page' frame : ℕ) → frame_of seg page ≡ Some frame
      → frame_of seg' page' ≡ Some frame → (seg ≡ seg') × (page ≡ page')

-- a word by the frame of its page, if it is in one; otherwise its kept word, which is given
abbrev pub word_in : Option ℕ → List ℕ → ℕ → ℕ → ℕ
word_in (Some frame) core w kept = slice_index core (1024 * frame + w % 1024)
word_in None core w kept = kept

-- the content of a word by the frame of its page, if it is in one
abbrev pub resident_word : Paged → Option ℕ → ℕ → ℕ → ℕ
resident_word m frame seg w = word_in frame m.core w (m.kept seg w)

-- Pages have moved between frames and the kept words. The descriptors and each word of each page
-- are unchanged. `before` and `after` give the frame of each page of the image (`IsPage`). What
-- they give for other numbers is arbitrary, and says nothing about core.
pub record IsMoved (frames : ℕ) (old new : Paged) : Type 0 where
  pub size : length new.core ≡ length old.core
  pub descriptors : take descriptor_words new.core ≡ take descriptor_words old.core
  pub before : ℕ → ℕ → Option ℕ
  pub residence_before : IsResidence old.core frames before
  pub after : ℕ → ℕ → Option ℕ
  pub residence_after : IsResidence new.core frames after
  pub words :
      (seg w : ℕ) → IsPage old.core seg (w / 1024)
      → resident_word new (after seg (w / 1024)) seg w ≡ resident_word old (before seg (w / 1024))
      seg w

-- If the page of a reference was in a frame before, it is in the same frame after.
abbrev pub StaysIn : (ℕ → ℕ → Option ℕ) → (ℕ → ℕ → Option ℕ) → Reference → Type 0
StaysIn before after e =
    (frame : ℕ) → before e.at.seg (e.at.word / 1024) ≡ Some frame
    → after e.at.seg (e.at.word / 1024) ≡ Some frame

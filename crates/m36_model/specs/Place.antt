-- Places of words in core: how the descriptor of a segment is found, how a word is found by it, and
-- which marks a reference sets. Multics Processor Manual AL39, "Address appending", "Segment
-- descriptor word", "Page table word".
use Rattle.std.specs.Prelude.{ℕ, ◌+◌, ◌*◌, ◌/◌, ◌%◌, ◌^◌, Bool, true, false, ◌&&◌, nat_lt}
use Rattle.std.specs.Prelude.{if◌then◌else◌, List, [], ◌∷◌, ◌++◌, length, slice_get, slice_index}
use Rattle.std.specs.Prelude.{slice_set, Option, Some, None, option_map, Result, Ok, Err}
use Rattle.m36_desc.specs.Fields.{SdwFields, PtwFields, DbrFields}
use Rattle.m36_desc.specs.Descriptors.{sdw_of, ptw_of}
use Rattle.m36_model.specs.Faults.{directed_fault}
use Rattle.m36_model.specs.Act.{RequestKind}
use Rattle.m36_desc.specs.Violations.{out_of_segment_bounds}
use Rattle.m36_model.specs.Store.{Spot, Core_word, violation, plain_refusal, claims_words}
use Rattle.m36_model.specs.declared.outcome.Refusal.{Refusal}

-- the store fault: a table word, or the word itself, is past the end of core
abbrev pub store_fault : Refusal
store_fault = plain_refusal 1

-- the directed fault of a descriptor or PTW whose F is off; its number is in FC
abbrev pub directed_refusal : ℕ → Refusal
directed_refusal fc = plain_refusal (directed_fault fc)

-- an address modulo 2^24: sums of addresses wrap
abbrev pub wrapped_address : ℕ → ℕ
wrapped_address a = a % 2 ^ 24

-- the frame that a PTW names: its address counts blocks of 64 words, and the low four bits are
-- ignored
abbrev pub frame_named : PtwFields → ℕ
frame_named p = p.addr / 16

-- the address at which the frame begins
abbrev pub frame_at : PtwFields → ℕ
frame_at p = frame_named p * 1024

-- the address of a word of a page, if F of its PTW is on (true); otherwise the directed fault
abbrev pub address_in_frame_by : Bool → PtwFields → ℕ → Result ℕ Refusal
address_in_frame_by true p offset = Ok (wrapped_address (frame_at p + offset))
address_in_frame_by false p offset = Err (directed_refusal p.fc)

-- The address of a word of a page, by its PTW. A store fault if the PTW is past the end of core
-- (None), and its directed fault if F is off.
abbrev pub address_in_frame : Option PtwFields → ℕ → Result ℕ Refusal
address_in_frame None offset = Err store_fault
address_in_frame (Some p) offset = address_in_frame_by p.f p offset

-- the PTW at an address, or None past the end of core
abbrev pub ptw_at : List ℕ → ℕ → Option PtwFields
ptw_at core a = option_map ptw_of (slice_get core a)

-- The address of the PTW for a page, where `addr` is the address of the page table: that of a
-- segment, or that of the descriptor segment.
abbrev pub ptw_from : ℕ → ℕ → ℕ
ptw_from addr page = wrapped_address (addr + page)

-- The address of word w of a segment or of the descriptor segment. `addr` is that of its first
-- word, if it is contiguous (true); otherwise p is the PTW of the page of the word.
abbrev pub place_from : Bool → ℕ → ℕ → Option PtwFields → Result ℕ Refusal
place_from true addr w p = Ok (wrapped_address (addr + w))
place_from false addr w p = address_in_frame p (w % 1024)

-- the address of the descriptor segment's PTW for the page with the descriptor of a segment
abbrev pub directory_at : DbrFields → ℕ → ℕ
directory_at dbr seg = ptw_from dbr.addr ((2 * seg) / 1024)

-- the address of a segment's PTW for a page
abbrev pub page_at : SdwFields → ℕ → ℕ
page_at d page = ptw_from d.addr page

-- the number of the last page that begins within the bound
abbrev pub last_page : SdwFields → ℕ
last_page d = d.bound / 64

-- the number of pages that begin within the bound
abbrev pub page_count : SdwFields → ℕ
page_count d = last_page d + 1

-- whether the descriptor of a segment is within the bound of the descriptor segment, and the
-- segment number has 15 bits
abbrev pub has_descriptor_in_bounds : DbrFields → ℕ → Bool
has_descriptor_in_bounds dbr seg = nat_lt (2 * seg) (16 * (dbr.bnd + 1)) && nat_lt seg (2 ^ 15)

-- the segment number of the stack of a ring, by the DBR
abbrev pub ring_stack : DbrFields → ℕ → ℕ
ring_stack dbr ring = 8 * dbr.stack + ring

-- The core address of the even word of a descriptor, if it is in bounds (first argument). `unpaged`
-- and p, the PTW of its page, are those of the descriptor segment.
abbrev pub sdw_place_by : Bool → Bool → DbrFields → ℕ → Option PtwFields → Result ℕ Refusal
sdw_place_by false unpaged dbr seg p = Err (violation out_of_segment_bounds)
sdw_place_by true unpaged dbr seg p = place_from unpaged dbr.addr (2 * seg) p

-- the core address of the even word of a segment's descriptor; it may be past the end of core
abbrev pub sdw_place : List ℕ → DbrFields → ℕ → Result ℕ Refusal
sdw_place core dbr seg =
    sdw_place_by (has_descriptor_in_bounds dbr seg) dbr.unpaged dbr seg
    (ptw_at core (directory_at dbr seg))

-- the descriptor in two words, if its F is on (true); otherwise its directed fault
abbrev pub live_by : Bool → ℕ → ℕ → Result SdwFields Refusal
live_by true even odd = Ok (sdw_of even odd)
live_by false even odd = Err (directed_refusal (sdw_of even odd).fc)

-- The descriptor in two words. A store fault if one of them is past the end of core (None); this is
-- checked before F.
abbrev pub sdw_words : Option ℕ → Option ℕ → Result SdwFields Refusal
sdw_words None odd = Err store_fault
sdw_words (Some even) None = Err store_fault
sdw_words (Some even) (Some odd) = live_by (sdw_of even odd).f even odd

-- the descriptor whose even word is at this address; the odd word is at the next one modulo 2^24
abbrev pub sdw_at : List ℕ → Result ℕ Refusal → Result SdwFields Refusal
sdw_at core (Err e) = Err e
sdw_at core (Ok a) = sdw_words (slice_get core a) (slice_get core (wrapped_address (a + 1)))

-- the descriptor of a live segment, or the fault of its lookup
unfoldable pub core_sdw : List ℕ → DbrFields → ℕ → Result SdwFields Refusal
core_sdw core dbr seg = sdw_at core (sdw_place core dbr seg)

-- an address as a spot, if it is in core (true); otherwise the store fault
abbrev pub spot_in_core_by : Bool → ℕ → Result Spot Refusal
spot_in_core_by true a = Ok (Core_word a)
spot_in_core_by false a = Err store_fault

-- an address as a spot; a store fault if it is not below the size of core
abbrev pub spot_in_core : ℕ → Result ℕ Refusal → Result Spot Refusal
spot_in_core size (Ok a) = spot_in_core_by (nat_lt a size) a
spot_in_core size (Err e) = Err e

-- the address of a word within the bound, by the descriptor and the PTW of the word's page
abbrev pub word_place_by : Bool → SdwFields → ℕ → Option PtwFields → Result ℕ Refusal
word_place_by unpaged d w p = place_from unpaged d.addr w p

-- the address of a word within the bound, with the PTW from core; it may be past the end of core
abbrev pub word_place : List ℕ → SdwFields → ℕ → Result ℕ Refusal
word_place core d w = word_place_by d.unpaged d w (ptw_at core (page_at d (w / 1024)))

-- the spot of a word within the bound, or a store fault if its address is past the end of core
unfoldable pub core_spot : List ℕ → DbrFields → SdwFields → ℕ → ℕ → Result Spot Refusal
core_spot core dbr d seg w = spot_in_core (length core) (word_place core d w)

-- the address at which a page of a paged segment begins, which may be past the end of core
abbrev pub page_frame : List ℕ → SdwFields → ℕ → Result ℕ Refusal
page_frame core d page = address_in_frame (ptw_at core (page_at d page)) 0

-- A mark that a reference sets in the PTW at an address: the used bit, and also the modified bit if
-- `modified` is on.
pub record Mark : Type 0 where
  pub address : ℕ
  pub modified : Bool

-- a PTW with its used bit (bit 26) on
unfoldable pub with_used : ℕ → ℕ
with_used w = (w / 1024 * 1024 + 512) + w % 512

-- a PTW with its modified bit (bit 29) on
unfoldable pub with_modified : ℕ → ℕ
with_modified w = (w / 128 * 128 + 64) + w % 64

-- a PTW with its used bit off
unfoldable pub without_used : ℕ → ℕ
without_used w = w / 1024 * 1024 + w % 512

-- a PTW marked as used or, for a write, as used and modified
abbrev pub marked_word : Bool → ℕ → ℕ
marked_word true w = with_modified (with_used w)
marked_word false w = with_used w

-- whether a reference of this kind sets the modified bit of the page to which it refers
abbrev pub is_write : RequestKind → Bool
is_write kind = claims_words kind

-- the mark in the PTW through which a reference passes; none if the segment is contiguous
abbrev pub marks_passed : Bool → ℕ → Bool → List Mark
marks_passed unpaged a modified =
    if unpaged then [] else record { address = a; modified = modified } ∷ []

-- the mark in the descriptor segment's PTW, if the descriptor segment is paged
abbrev pub directory_marks : DbrFields → ℕ → List Mark
directory_marks dbr seg = marks_passed dbr.unpaged (directory_at dbr seg) false

-- the mark in the segment's PTW for word w, if the segment is live and paged
abbrev pub page_marks : Bool → ℕ → Result SdwFields Refusal → List Mark
page_marks write w (Err e) = []
page_marks write w (Ok d) =
    marks_passed d.unpaged (page_at d (w / 1024)) write

-- the marks of a reference: one in each PTW through which it passes, first that of the descriptor
-- segment
abbrev pub marks_by : DbrFields → ℕ → Bool → ℕ → Result SdwFields Refusal → List Mark
marks_by dbr seg write w sdw = directory_marks dbr seg ++ page_marks write w sdw

-- the marks of a reference to word w of a segment
unfoldable pub marks : List ℕ → DbrFields → RequestKind → ℕ → ℕ → List Mark
marks core dbr kind seg w = marks_by dbr seg (is_write kind) w (core_sdw core dbr seg)

-- core with a mark set
abbrev pub with_mark : List ℕ → Mark → List ℕ
with_mark core m = slice_set core m.address (marked_word m.modified (slice_index core m.address))

-- core with marks set, in order
unfoldable pub with_marks : List ℕ → List Mark → List ℕ
with_marks core [] = core
with_marks core (m ∷ more) = with_marks (with_mark core m) more

-- core with the marks of a reference to word w of a segment
unfoldable pub core_marked : List ℕ → DbrFields → RequestKind → ℕ → ℕ → List ℕ
core_marked core dbr kind seg w = with_marks core (marks core dbr kind seg w)

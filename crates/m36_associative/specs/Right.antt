-- The invariant of the associative memories: what is kept is what the tables in core say.
use Rattle.std.specs.Prelude.{ℕ, ◌≡◌, ◌+◌, ◌*◌, ◌/◌, ◌%◌, ◌<◌, ◌≤◌, ◌^◌, Bool, true, false, List}
use Rattle.std.specs.Prelude.{length, slice_index, Contains, Ok, Some, None}
use Rattle.m36_desc.specs.Access.{first_violation, read_rows, write_rows, fetch_rows, transfer_rows}
use Rattle.m36_desc.specs.Fields.{SdwFields, PtwFields, DbrFields}
use Rattle.m36_model.specs.Place.{wrapped_address, address_in_frame, ptw_at, directory_at, page_at}
use Rattle.m36_model.specs.Place.{sdw_place}
use Rattle.m36_model.specs.Place.{core_sdw, word_place, word_place_by, marked_word, marks_by}
use Rattle.m36_model.specs.Place.{with_marks}
use Rattle.m36_model.specs.Store.{is_within_bound}
use Rattle.m36_associative.specs.Watched.{is_watched}
use Rattle.m36_associative.specs.declared.front.Fetching.{Fetching}
use Rattle.m36_associative.specs.declared.front.Page.{Page}
use Rattle.m36_associative.specs.declared.kept.SdwEntry.{SdwEntry}
use Rattle.m36_associative.specs.declared.kept.PtwEntry.{PtwEntry}
use Rattle.m36_associative.specs.declared.memories.Memories.{Memories}

-- the key under which a page of a segment is in front; 0 is the key of no page
abbrev pub page_key : ℕ → ℕ → ℕ
page_key seg page = seg * 256 + page + 1

-- The PTW at address `a` has its used bit on and, if `modified` is on, its modified bit too.
abbrev pub IsMarked : List ℕ → ℕ → Bool → Type 0
IsMarked core a modified = marked_word modified (slice_index core a) ≡ slice_index core a

-- By this descriptor, nothing refuses a read in this ring, whatever segment executes.
abbrev pub MayRead : ℕ → SdwFields → Type 0
MayRead ring d = (same : Bool) → first_violation (read_rows d ring same) ≡ None

-- nothing refuses a write in this ring
abbrev pub MayWrite : ℕ → SdwFields → Type 0
MayWrite ring d = first_violation (write_rows d ring) ≡ None

-- nothing refuses a fetch in this ring
abbrev pub MayFetch : ℕ → SdwFields → Type 0
MayFetch ring d = first_violation (fetch_rows d ring) ≡ None

-- nothing refuses a transfer to the segment in this ring, from the same ring
abbrev pub MayTransferTo : ℕ → SdwFields → Type 0
MayTransferTo ring d = first_violation (transfer_rows d ring ring) ≡ None

-- What a page in front answers, in a core of this size: the words before its end are within the
-- bound and in core, and the rings that it names have the rights.
pub record IsPageRights (size : ℕ) (d : SdwFields) (page : ℕ) (p : Page) : Type 0 where
  pub small : size ≤ 2 ^ 24
  pub most : p.end ≤ 1024
  pub inside : 0 < p.end → p.base + p.end ≤ size
  pub bound : (w : ℕ) → w / 1024 ≡ page → w % 1024 < p.end → is_within_bound d w ≡ true
  pub reads : (ring : ℕ) → ring < p.read_below → MayRead ring d
  pub writes : (ring : ℕ) → ring < p.write_below → MayWrite ring d
  pub fetches : (ring : ℕ) → p.r1 ≤ ring → ring < p.fetch_below → MayFetch ring d
  pub ring : p.r1 ≡ d.r1
  pub low_ring : p.r1 < 2 ^ 3
  pub privileged : p.privileged ≡ d.privileged

module _ (core : List ℕ) (dbr : DbrFields) (words tables : List ℕ) where
  -- The words through which the descriptor of a segment is found are watched: its own two words
  -- and, in a paged descriptor segment, the PTW.
  pub record IsWatched (seg : ℕ) : Type 0 where
    pub even : (a : ℕ) → sdw_place core dbr seg ≡ Ok a → is_watched words a ≡ true
    pub odd : (a : ℕ) → sdw_place core dbr seg ≡ Ok a → is_watched words (wrapped_address (a + 1))
        ≡ true
    pub directory : dbr.unpaged ≡ false → is_watched tables (directory_at dbr seg) ≡ true

  -- A descriptor may be kept for this segment: it is the one that core has, and the words through
  -- which it is found are watched.
  pub record IsKeptDescriptor (seg : ℕ) (d : SdwFields) : Type 0 where
    pub found : core_sdw core dbr seg ≡ Ok d
    pub watches : IsWatched seg

  -- A PTW may be kept for this address: it finds the words of its page as the one in core does (its
  -- marks may differ), and the address is watched.
  pub record IsKeptTableWord (a : ℕ) (p : PtwFields) : Type 0 where
    pub inside : a < length core
    pub finds : (offset : ℕ) → address_in_frame (ptw_at core a) offset
        ≡ address_in_frame (Some p) offset
    pub watches : is_watched tables a ≡ true

  -- A page in front: the descriptor of its segment, where its words are in core, that its marks are
  -- set, and what it answers.
  pub record DescribesPage (p : Page) (seg page : ℕ) : Type 0 where
    pub sdw : SdwFields
    pub found : core_sdw core dbr seg ≡ Ok sdw
    pub watches : IsWatched seg
    pub table : sdw.unpaged ≡ false → is_watched tables (page_at sdw page) ≡ true
    pub low : p.base < 2 ^ 24
    pub place :
        (w : ℕ) → w / 1024 ≡ page
        → word_place_by sdw.unpaged sdw w (ptw_at core (page_at sdw page))
        ≡ Ok (wrapped_address (p.base + w % 1024))
    pub passed : dbr.unpaged ≡ false → IsMarked core (directory_at dbr seg) false
    pub used : sdw.unpaged ≡ false → IsMarked core (page_at sdw page) false
    pub modified :
        0 < p.write_below → sdw.unpaged ≡ false → IsMarked core (page_at sdw page) true
    pub page_rights : IsPageRights (length core) sdw page p

  -- a page in front by its key, which determines segment and page; key 0 is that of no page
  abbrev pub IsPageInFront : Page → Type 0
  IsPageInFront p =
      (seg page : ℕ) → page < 256 → p.key ≡ page_key seg page → DescribesPage p seg page

  -- the page that is fetched from: a page in front, in one ring
  pub record IsFetching (f : Fetching) : Type 0 where
    pub page : Page
    pub is : DescribesPage page f.seg (f.first / 1024)
    pub first : f.first % 1024 ≡ 0
    pub low : f.first < 2 ^ 18
    pub base : f.base ≡ page.base
    pub len : f.len ≤ page.end
    pub above : page.r1 ≤ f.ring
    pub below : f.ring < page.fetch_below
    pub privileged : f.privileged ≡ page.privileged

-- The memories are coherent with core: each entry, each page in front and the page that is fetched
-- from is what the tables in core say, and the words on which it depends are watched.
pub record AreCoherent (core : List ℕ) (dbr : DbrFields) (m : Memories) : Type 0 where
  pub descriptors :
      (e : SdwEntry) (seg : ℕ) → Contains m.sdws e → e.key ≡ seg + 1
      → IsKeptDescriptor core dbr m.words m.tables seg e.sdw
  pub table_words :
      (e : PtwEntry) (a : ℕ) → Contains m.ptws e → e.key ≡ a + 1
      → IsKeptTableWord core dbr m.words m.tables a e.ptw
  pub pages : (p : Page) → Contains m.pages p → IsPageInFront core dbr m.words m.tables p
  pub fetching : 0 < m.fetching.len → IsFetching core dbr m.words m.tables m.fetching

-- A page in front answers a reference to `count` words of a segment: the descriptor gives these
-- rights, the words are within the bound and are consecutive core words from `place` on, and the
-- marks of the reference are set.
pub record Answers (core : List ℕ) (dbr : DbrFields) (Rights : SdwFields → Type 0) (write : Bool)
    (seg word count place : ℕ) : Type 0 where
  pub sdw : SdwFields
  pub found : core_sdw core dbr seg ≡ Ok sdw
  pub rights : Rights sdw
  pub bound : is_within_bound sdw word ≡ true
  pub at : word_place core sdw word ≡ Ok place
  pub small : length core ≤ 2 ^ 24
  pub inside : place + count ≤ length core
  pub marked : with_marks core (marks_by dbr seg write word (Ok sdw)) ≡ core

-- What the calls of a pager change, and what they leave unchanged.
use Rattle.std.specs.Prelude.{ℕ, ◌≡◌, ◌≢◌, ◌+◌, ◌*◌, ◌/◌, ◌%◌, ◌<◌, ◌≤◌, ◌⊎◌, Bool, true, false}
use Rattle.std.specs.Prelude.{◌&&◌, nat_eq, List, length, slice_get, slice_index}
use Rattle.std.specs.Prelude.{slice_index_or, slice_set, All, Option, Some, None, IsSome}
use Rattle.std.specs.List.{list_any}
use Rattle.m36_model.specs.Place.{without_used}
use Rattle.m36_model.specs.declared.place.Reference.{Reference}
use Rattle.m36_model.specs.Residence.{StaysIn}
use Rattle.m36_page.specs.Copied.{IsOutside}
use Rattle.m36_page.specs.Fields.{TableFields, PagerFields}
use Rattle.m36_page.specs.Residence.{has_page, spot_of, kept_word, absent_ptw, resident_ptw}
use Rattle.m36_page.specs.Residence.{frame_of, content_of, Holds}

-- the same frames, and the same pages with page table words at the same places
pub record IsSameShape (old new : PagerFields) : Type 0 where
  pub first : new.first ≡ old.first
  pub frames : length new.holders ≡ length old.holders
  pub pages : (seg page : ℕ) → has_page new seg page ≡ has_page old seg page
  pub spots : (seg page : ℕ) → spot_of new seg page ≡ spot_of old seg page

-- the core word `a` is a page table word of a page that the pager has
pub record IsPtwPlace (p : PagerFields) (a : ℕ) : Type 0 where
  pub seg : ℕ
  pub page : ℕ
  pub has : has_page p seg page ≡ true
  pub is : spot_of p seg page ≡ a

-- a core word that a call may change: a page table word, or a word of a pageable frame
abbrev pub IsChangeable : PagerFields → ℕ → Type 0
IsChangeable p a =
    IsPtwPlace p a ⊎ ((1024 * p.first ≤ a) × (a < 1024 * (p.first + length p.holders)))

-- Pages may have moved: no content has changed, and no core word except page table words and words
-- of pageable frames.
pub record KeepsContents (old : PagerFields) (core : List ℕ) (new : PagerFields)
    (now : List ℕ) : Type 0 where
  pub shape : IsSameShape old new
  pub size : length now ≡ length core
  pub content : (seg w : ℕ) → content_of new now seg w ≡ content_of old core seg w
  pub others : (a : ℕ) → (IsChangeable old a → ⊥) → slice_index now a ≡ slice_index core a

-- frames other than frame k hold the same pages as before
abbrev pub OthersHold : PagerFields → PagerFields → ℕ → Type 0
OthersHold old new k =
    (j : ℕ) → j ≢ k → slice_index_or new.holders j None ≡ slice_index_or old.holders j None

-- Frames other than frame k hold the same pages as before. In core only the page table word of the
-- page in frame k may have changed, and of the kept words only those of that page.
pub record OthersStay (old : PagerFields) (core : List ℕ) (new : PagerFields) (now : List ℕ)
    (k : ℕ) : Type 0 where
  pub holders : OthersHold old new k
  pub words : (a : ℕ) → ((seg page : ℕ) → Holds old k seg page → a ≢ spot_of old seg page)
      → slice_index now a ≡ slice_index core a
  pub kept : (s w : ℕ) → (Holds old k s (w / 1024) → ⊥)
      → kept_word new s w ≡ kept_word old s w

-- the core word `a` is a page table word of one of these tables
abbrev pub IsTableWord : List TableFields → ℕ → Type 0
IsTableWord tables a =
    (j : ℕ) × (t : TableFields) × (slice_get tables j ≡ Some t) × (t.at ≤ a) × (a < t.at + t.pages)

-- The page table words of the first `count` tables are those of pages in no frame, and no other
-- core word has changed.
pub record AreAbsent (tables : List TableFields) (count : ℕ) (core now : List ℕ) : Type 0 where
  pub size : length now ≡ length core
  pub absent : (j : ℕ) (t : TableFields) (q : ℕ) → j < count → slice_get tables j ≡ Some t
      → q < t.pages
      → slice_index now (t.at + q) ≡ absent_ptw
  pub others : (a : ℕ) → (IsTableWord tables a → ⊥) → slice_index now a ≡ slice_index core a

-- no frame holds a page
abbrev pub AllEmpty : PagerFields → Type 0
AllEmpty p = (k seg page : ℕ) → Holds p k seg page → ⊥

-- A word of a segment was set: in its frame if its page is in one, and otherwise in the kept
-- words. No other word has changed, and each page is where it was.
pub record IsSet (old : PagerFields) (core : List ℕ) (new : PagerFields) (now : List ℕ)
    (seg word v : ℕ) : Type 0 where
  pub shape : IsSameShape old new
  pub holders : new.holders ≡ old.holders
  pub size : length now ≡ length core
  pub here : content_of new now seg word ≡ Some v
  pub content : (s w : ℕ) → ((s ≡ seg) × (w ≡ word) → ⊥)
      → content_of new now s w ≡ content_of old core s w
  pub others : (a : ℕ) → (IsChangeable old a → ⊥) → slice_index now a ≡ slice_index core a
  pub in_frame : (frame : ℕ) → frame_of old core seg (word / 1024) ≡ Some frame
      → (new ≡ old) × (now ≡ slice_set core (1024 * frame + word % 1024) v)
  pub in_none : frame_of old core seg (word / 1024) ≡ None → now ≡ core
  pub kept : (s w : ℕ) → ((s ≡ seg) × (w ≡ word) → ⊥) → kept_word new s w ≡ kept_word old s w

-- ---- pinned pages

-- a reference is to this page (segment and number)
abbrev pub refers_to_page : ℕ × ℕ → Reference → Bool
refers_to_page held e = nat_eq e.at.seg held.0 && nat_eq (e.at.word / 1024) held.1

-- a frame holds a page that one of the references is to
abbrev pub is_pinned : List Reference → Option (ℕ × ℕ) → Bool
is_pinned refs None = false
is_pinned refs (Some held) = list_any (refers_to_page held) refs

-- every frame holds a page that one of the references is to
abbrev pub AllPinned : PagerFields → List Reference → Type 0
AllPinned p refs = All (λ h. is_pinned refs h ≡ true) p.holders

-- a page that is referenced, and that the pager has, stays in its frame
abbrev pub Stays : PagerFields → List ℕ → PagerFields → List ℕ → Reference → Type 0
Stays old core new now e =
    has_page old e.at.seg (e.at.word / 1024) ≡ true
    → StaysIn (frame_of old core) (frame_of new now) e

-- The core word `a` is the page table word of a page that is in a frame and that the references do
-- not pin.
pub record IsUnpinnedPtwPlace (p : PagerFields) (refs : List Reference) (a : ℕ) : Type 0 where
  pub k : ℕ
  pub seg : ℕ
  pub page : ℕ
  pub holds : Holds p k seg page
  pub free : is_pinned refs (Some (seg, page)) ≡ false
  pub is : spot_of p seg page ≡ a

-- a core word is unchanged, or it is at one of these places and its used mark was cleared
abbrev pub OnlyMarkCleared : (ℕ → Type 0) → List ℕ → List ℕ → ℕ → Type 0
OnlyMarkCleared at core now a =
    (slice_index now a ≡ slice_index core a)
    ⊎ (at a × (slice_index now a ≡ without_used (slice_index core a)))

-- A page was brought in. Frames other than frame k hold the same pages as before, so at most one
-- page was evicted. The core words that have changed are those of frame k, the page table words of
-- the two pages, in which no mark is set, and used marks, which were cleared, of pages that the
-- references do not pin. Only the kept words of the evicted page may have changed.
pub record IsBrought (old : PagerFields) (core : List ℕ) (new : PagerFields) (now : List ℕ)
    (seg page : ℕ) (refs : List Reference) : Type 0 where
  pub kept : KeepsContents old core new now
  pub resident : IsSome (frame_of new now seg page)
  pub stays : All (Stays old core new now) refs
  pub k : ℕ
  pub holders : OthersHold old new k
  pub spot : frame_of old core seg page ≡ None
      → slice_index now (spot_of old seg page) ≡ resident_ptw (old.first + k)
  pub away : (s q : ℕ) → frame_of old core seg page ≡ None → Holds old k s q
      → slice_index now (spot_of old s q) ≡ absent_ptw
  pub words : (a : ℕ) → a ≢ spot_of old seg page
      → ((s q : ℕ) → Holds old k s q → a ≢ spot_of old s q)
      → IsOutside (1024 * (old.first + k)) 1024 a
      → OnlyMarkCleared (IsUnpinnedPtwPlace old refs) core now a
  pub others_kept : (s w : ℕ) → (Holds old k s (w / 1024) → ⊥)
      → kept_word new s w ≡ kept_word old s w

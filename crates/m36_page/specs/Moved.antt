-- A page that is evicted, and one that is taken in: what has changed, word by word.
use Rattle.std.specs.Prelude.{ℕ, ◌≡◌, ◌≢◌, ◌+◌, ◌*◌, ◌/◌, ◌%◌, ◌<◌, ◌⊎◌, true, List, length}
use Rattle.std.specs.Prelude.{slice_index, slice_index_or, slice_set, position, Some, None}
use Rattle.m36_page.specs.Copied.{IsOutside}
use Rattle.m36_page.specs.Fields.{TableFields, PagerFields}
use Rattle.m36_page.specs.Residence.{is_table_of, has_page, spot_of, kept_word, absent_ptw}
use Rattle.m36_page.specs.Residence.{resident_ptw}
use Rattle.m36_page.specs.Residence.{frame_of, Holds, IsPager, IsConsistent}
use Rattle.m36_page.specs.Changes.{IsSameShape, KeepsContents, OthersStay}

-- The table of a segment, which has index i, has these words now.
pub record HasWords (p new : PagerFields) (seg i : ℕ) (d : TableFields)
    (words : List ℕ) : Type 0 where
  pub at : position (is_table_of seg) p.tables ≡ Some i
  pub tables : new.tables
      ≡ slice_set p.tables i (record (slice_index_or p.tables i d) { words = words })

-- The page of frame k was evicted: its kept words are those that the frame had.
pub record IsEvicted (p : PagerFields) (core : List ℕ) (new : PagerFields) (now : List ℕ)
    (k seg page : ℕ) : Type 0 where
  pub held : Holds p k seg page
  pub shape : IsSameShape p new
  pub words : IsPager new
  pub left : (j s q : ℕ) → Holds new j s q → Holds p j s q × (j ≢ k)
  pub stay : (j s q : ℕ) → Holds p j s q → j ≢ k → Holds new j s q
  pub kept_others : (s w : ℕ) → ((s ≡ seg) × (w / 1024 ≡ page) → ⊥)
      → kept_word new s w ≡ kept_word p s w
  pub kept_page : (w : ℕ) → w / 1024 ≡ page
      → kept_word new seg w ≡ slice_index core (1024 * (p.first + k) + w % 1024)
  pub size : length now ≡ length core
  pub spot : slice_index now (spot_of p seg page) ≡ absent_ptw
  pub others : (a : ℕ) → a ≢ spot_of p seg page → slice_index now a ≡ slice_index core a

-- A page that was in no frame was taken into frame k, which was empty: the frame has the kept
-- words of the page.
pub record IsTakenIn (p : PagerFields) (core : List ℕ) (new : PagerFields) (now : List ℕ)
    (k seg page : ℕ) : Type 0 where
  pub has : has_page p seg page ≡ true
  pub out : frame_of p core seg page ≡ None
  pub empty : slice_index_or p.holders k None ≡ None
  pub inside : k < length p.holders
  pub shape : IsSameShape p new
  pub words : IsPager new
  pub here : Holds new k seg page
  pub left : (j s q : ℕ) → Holds new j s q → ((j ≡ k) × (s ≡ seg) × (q ≡ page)) ⊎ Holds p j s q
  pub stay : (j s q : ℕ) → Holds p j s q → Holds new j s q
  pub kept : (s w : ℕ) → kept_word new s w ≡ kept_word p s w
  pub size : length now ≡ length core
  pub spot : slice_index now (spot_of p seg page) ≡ resident_ptw (p.first + k)
  pub page_in : (i : ℕ) → i < 1024
      → slice_index now (1024 * (p.first + k) + i) ≡ kept_word p seg (1024 * page + i)
  pub others : (a : ℕ) → a ≢ spot_of p seg page → IsOutside (1024 * (p.first + k)) 1024 a
      → slice_index now a ≡ slice_index core a

-- Frame k was emptied, if it held a page: all other pages stay where they are.
pub record IsEmptied (p : PagerFields) (core : List ℕ) (new : PagerFields) (now : List ℕ)
    (k : ℕ) : Type 0 where
  pub kept : KeepsContents p core new now
  pub settled : IsConsistent new now
  pub empty : slice_index_or new.holders k None ≡ None
  pub spot : (s q : ℕ) → Holds p k s q → slice_index now (spot_of p s q) ≡ absent_ptw
  pub same : slice_index_or p.holders k None ≡ None → (new ≡ p) × (now ≡ core)
  pub others : OthersStay p core new now k
  pub stays : (s q frame : ℕ) → has_page p s q ≡ true → frame_of p core s q ≡ Some frame
      → frame ≢ p.first + k
      → frame_of new now s q ≡ Some frame
  pub out : (s q : ℕ) → has_page p s q ≡ true → frame_of p core s q ≡ None
      → frame_of new now s q ≡ None

-- A kept word was replaced, and nothing else has changed.
pub record IsKeptWordSet (p new : PagerFields) (seg word v : ℕ) : Type 0 where
  pub shape : IsSameShape p new
  pub holders : new.holders ≡ p.holders
  pub pager : IsPager new
  pub here : kept_word new seg word ≡ v
  pub others : (s w : ℕ) → ((s ≡ seg) × (w ≡ word) → ⊥) → kept_word new s w ≡ kept_word p s w

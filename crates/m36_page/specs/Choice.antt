-- Frames that may be taken.
use Rattle.std.specs.Prelude.{ℕ, ◌≡◌, ◌≤◌, ◌<◌, true, false, List, length, slice_index}
use Rattle.std.specs.Prelude.{slice_index_or, Option, Some, None}
use Rattle.m36_model.specs.declared.place.Reference.{Reference}
use Rattle.m36_page.specs.Changes.{is_pinned, OnlyMarkCleared}

-- frame k is one of the pageable frames, and holds no page of the references
pub record IsUnpinned (refs : List Reference) (holders : List (Option (ℕ × ℕ)))
    (k : ℕ) : Type 0 where
  pub inside : k < length holders
  pub free : is_pinned refs (slice_index_or holders k None) ≡ false

-- the frames in `from .. to` all hold pages of the references
pub record ArePinned (refs : List Reference) (holders : List (Option (ℕ × ℕ)))
    (from to : ℕ) : Type 0 where
  pub each : (k : ℕ) → from ≤ k → k < to → is_pinned refs (slice_index_or holders k None) ≡ true

-- Each frame's page has its page table word at a place in `spots`. The core word `a` is that of a
-- frame whose page the references do not pin.
pub record IsHeldSpot (refs : List Reference) (holders : List (Option (ℕ × ℕ))) (spots : List ℕ)
    (a : ℕ) : Type 0 where
  pub k : ℕ
  pub held : ℕ × ℕ
  pub holds : slice_index_or holders k None ≡ Some held
  pub free : is_pinned refs (Some held) ≡ false
  pub is : slice_index spots k ≡ a

-- no word has changed except the used mark of words at these places, which was cleared
pub record ClearsMarksAt (core now : List ℕ) (at : ℕ → Type 0) : Type 0 where
  pub size : length now ≡ length core
  pub each : (a : ℕ) → OnlyMarkCleared at core now a

-- for each frame that holds a page, the address in `spots` of its page table word is within core
abbrev pub AreInCore : List (Option (ℕ × ℕ)) → List ℕ → List ℕ → Type 0
AreInCore holders spots core =
    (k : ℕ) (held : ℕ × ℕ) → slice_index_or holders k None ≡ Some held
    → slice_index spots k < length core

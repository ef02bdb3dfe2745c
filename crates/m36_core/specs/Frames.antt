-- Core as frames of 1,024 words.
use Rattle.std.specs.Prelude.{ℕ, ◌+◌, ◌*◌, ◌%◌, ◌≡◌, ◌<◌, ◌≤◌, ◌^◌, List, length}
use Rattle.std.specs.Prelude.{slice_index, slice_range}
use Rattle.m36_core.specs.Places.{overwritten}

-- Core consists of whole frames, and has at most the 2^24 words that an address of 24 bits can
-- name.
pub record IsCore (core : List ℕ) : Type 0 where
  pub whole : length core % 1024 ≡ 0
  pub most : length core ≤ 2 ^ 24

-- the 1,024 words of frame f
abbrev pub frame_words : List ℕ → ℕ → List ℕ
frame_words core f = slice_range core (1024 * f) (1024 * f + 1024)

-- core with other words in frame f
abbrev pub with_frame : List ℕ → ℕ → List ℕ → List ℕ
with_frame core f words = overwritten core (1024 * f) words

-- `new` has these words in frame f, and is as `core` everywhere else
pub record IsFrameWritten (core words new : List ℕ) (f : ℕ) : Type 0 where
  pub size : length new ≡ length core
  pub inside : (k : ℕ) → k < 1024 → slice_index new (1024 * f + k) ≡ slice_index words k
  pub before : (a : ℕ) → a < 1024 * f → slice_index new a ≡ slice_index core a
  pub behind : (a : ℕ) → 1024 * f + 1024 ≤ a → slice_index new a ≡ slice_index core a

-- If 1,024 words are written over frame f, only that frame changes.
abbrev pub FrameLaw : Type 0
FrameLaw =
    (core words : List ℕ) (f : ℕ) → 1024 * f + 1024 ≤ length core → length words ≡ 1024
    → IsFrameWritten core words (with_frame core f words) f

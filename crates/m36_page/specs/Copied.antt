-- A page that is copied.
use Rattle.std.specs.Prelude.{ℕ, ◌≡◌, ◌+◌, ◌<◌, ◌≤◌, ◌⊎◌, List, length, slice_index}

-- an index outside of `at .. at + count`
abbrev pub IsOutside : ℕ → ℕ → ℕ → Type 0
IsOutside at count a = (a < at) ⊎ (at + count ≤ a)

-- The 1,024 words of `source` from index `from` on were copied to index `at`, and nothing else has
-- changed.
pub record IsCopied (source : List ℕ) (from : ℕ) (old : List ℕ) (at : ℕ)
    (new : List ℕ) : Type 0 where
  pub size : length new ≡ length old
  pub inside : (i : ℕ) → i < 1024 → slice_index new (at + i) ≡ slice_index source (from + i)
  pub outside : (a : ℕ) → IsOutside at 1024 a → slice_index new a ≡ slice_index old a

-- `count` words from index `at` on are v now, and nothing else has changed.
pub record IsFilled (at count v : ℕ) (old new : List ℕ) : Type 0 where
  pub size : length new ≡ length old
  pub inside : (i : ℕ) → i < count → slice_index new (at + i) ≡ v
  pub outside : (a : ℕ) → IsOutside at count a → slice_index new a ≡ slice_index old a

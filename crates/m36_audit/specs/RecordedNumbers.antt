-- Numbers that are recorded for core words. A word has one value: 0 if none was recorded, the
-- number if only this one was, and `several` if different ones were.
use Rattle.std.specs.Prelude.{◌≡◌, ◌≢◌, ℕ, ◌<◌, ◌||◌, ◌==◌, if◌then◌else◌, List, length}
use Rattle.std.specs.Prelude.{slice_index, slice_set}

-- the value of a word for which different numbers were recorded
abbrev pub several : ℕ
several = 4294967295

-- the value of a word after one more number was recorded for it
unfoldable pub with_number : ℕ → ℕ → ℕ
with_number seen table_number = if seen == 0 || seen == table_number then table_number else several

-- the values after one more number was recorded for a word; a word past the end of core is ignored
abbrev pub with_number_at : List ℕ → ℕ → ℕ → List ℕ
with_number_at values a table_number =
    slice_set values a (with_number (slice_index values a) table_number)

-- two different numbers satisfy Has
pub record TwoOf (Has : ℕ → Type 0) : Type 0 where
  pub one : ℕ
  pub other : ℕ
  pub has : Has one
  pub has_other : Has other
  pub differ : one ≢ other

-- this is the value of a word for which the numbers that satisfy Has were recorded
pub record IsRecorded (Has : ℕ → Type 0) (value : ℕ) : Type 0 where
  pub only : value ≢ several → (x : ℕ) → Has x → x ≡ value
  pub one : value ≢ several → value ≢ 0 → Has value
  pub two : value ≡ several → TwoOf Has

-- these are the values of the `size` words of core, if the numbers that satisfy `Has a` were
-- recorded for word a
pub record AreRecorded (Has : ℕ → ℕ → Type 0) (size : ℕ) (values : List ℕ) : Type 0 where
  pub len : length values ≡ size
  pub each : (a : ℕ) → a < size → IsRecorded (Has a) (slice_index values a)

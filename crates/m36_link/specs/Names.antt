-- The invariant of the names that are initiated.
use Rattle.std.specs.Prelude.{ℕ, ◌<◌, ◌≤◌, ◌^◌, List, length, All}
use Rattle.m36_text.specs.Texts.{name_limit}
use Rattle.m36_link.specs.Fields.{RingNameFields}

-- a name that is not too long, with a segment number of 15 bits
pub record IsInitiated (e : RingNameFields × ℕ) : Type 0 where
  pub name : length e.0.name ≤ name_limit
  pub seg : e.1 < 2 ^ 15

-- `IsInitiated` holds of each entry.
abbrev pub AreNames : List (RingNameFields × ℕ) → Type 0
AreNames names = All IsInitiated names

-- An instruction word as contracts see it: its fields, as numbers and Booleans.
use Rattle.std.specs.Prelude.{ℕ, Bool, ◌^◌, ◌<◌}

-- `y` is the address, `code` the operation code without bit 27, and `by_pr` bit 29.
pub record InstFields : Type 0 where
  pub y : ℕ
  pub code : ℕ
  pub bit27 : Bool
  pub inhibit : Bool
  pub by_pr : Bool
  pub tag : ℕ

-- each number is below 2 to the power of its width
pub record IsInst (i : InstFields) : Type 0 where
  pub y : i.y < 2 ^ 18
  pub code : i.code < 2 ^ 9
  pub tag : i.tag < 2 ^ 6

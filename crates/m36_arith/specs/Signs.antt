-- Signed numbers by their sign and magnitude.
use Rattle.std.specs.Prelude.{ℕ, Bool, true, false, ℤ, pos, neg_ℤ}

-- the number with this magnitude, negative if the flag is on
abbrev pub with_sign : Bool → ℕ → ℤ
with_sign false m = pos m
with_sign true m = neg_ℤ (pos m)

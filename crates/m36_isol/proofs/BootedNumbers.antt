-- The numbers of a booted core follow from those of its parts.
use Rattle.std.proofs.Common.{◌≡◌, refl, arith}
use Rattle.std.specs.Prelude.{ℕ, ◌+◌, ◌*◌, ◌^◌}
use Rattle.m36_isol.specs.BootedNumbers.{BootedNumbersLaw}

-- the word of a page in a frame, by its fields
resident_sum : (frame : ℕ) → 16 * frame * 2 ^ 18 + 4 ≡ 16 * frame * 2 ^ 18 + 0 * 2 ^ 9 + 0 * 2 ^ 6 + 1 * 2 ^ 2 + 0
resident_sum frame = omega arith

pub booted_numbers : BootedNumbersLaw
booted_numbers = record { descriptors = refl; wired = refl; resident = resident_sum; absent = refl }

-- A bit as a number.
use Rattle.std.proofs.Common.{◌≡◌, ℕ, ◌≤◌, ◌==◌, Bool, true, false, refl, arith}
use Rattle.m36_word.specs.Bits.{of_bit}

pub bit_small : (b : Bool) → of_bit b ≤ 1
bit_small true = omega arith
bit_small false = omega arith

pub bit_back : (b : Bool) (n : ℕ) → n ≡ of_bit b → (n == 1) ≡ b
bit_back true n e = rw e refl
bit_back false n e = rw e refl

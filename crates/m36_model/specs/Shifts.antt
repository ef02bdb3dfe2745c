-- Shifts of numbers of k bits by a count, which is the address modulo 128.
-- Multics Processor Manual AL39, "Fixed-point data movement shift instructions"; the carry of a
-- left shift as defined here is this project's choice.
use Rattle.std.specs.Prelude.{ℕ, ◌+◌, ◌-◌, ◌*◌, ◌/◌, ◌%◌, ◌^◌, Bool, not, ◌&&◌, ◌==◌, pos}
use Rattle.std.specs.Int.{int_div_euclid}
use Rattle.m36_word.specs.Signed.{signed}
use Rattle.m36_model.specs.Arithmetic.{modulo}

-- the count of a shift by this address, below 128
abbrev pub count_of : ℕ → ℕ
count_of address = address % 128

-- a left shift by c: zeros enter at the right
unfoldable pub left_shift : ℕ → ℕ → ℕ → ℕ
left_shift k v c = v * 2 ^ c % 2 ^ k

-- the first c + 1 bits of a number of k bits that zeros follow, as a number
unfoldable pub first_bits : ℕ → ℕ → ℕ → ℕ
first_bits k v c = v * 2 ^ (c + 1) / 2 ^ k

-- The carry of a left shift by c: on exactly if the first c + 1 bits are neither all zeros nor all
-- ones, so that the sign changes during the shift.
unfoldable pub left_shift_carry : ℕ → ℕ → ℕ → Bool
left_shift_carry k v c = not (first_bits k v c == 0) && not (first_bits k v c == 2 ^ (c + 1) - 1)

-- a right shift by c that copies the first bit: the signed value divided by 2^c, rounded down
unfoldable pub copying_right_shift : ℕ → ℕ → ℕ → ℕ
copying_right_shift k v c = modulo (int_div_euclid (signed (2 ^ (k - 1)) v) (pos (2 ^ c))) (2 ^ k)

-- a right shift by c: zeros enter at the left
unfoldable pub plain_right_shift : ℕ → ℕ → ℕ
plain_right_shift v c = v / 2 ^ c

-- a rotation to the left by c modulo the width
unfoldable pub rotation : ℕ → ℕ → ℕ → ℕ
rotation k v c = v * 2 ^ (c % k) % 2 ^ k + v / 2 ^ (k - c % k)

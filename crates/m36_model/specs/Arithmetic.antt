-- Arithmetic on numbers of k bits, which are whole numbers below 2^k. `half` is 2^(k-1): 2^17 for
-- an index register, 2^35 for a word, 2^71 for a pair. In two's complement, numbers of `half` or
-- more are negative. Multics Processor Manual AL39, "Number representation" and the fixed point
-- instructions; carry and overflow as defined here are this project's choice.
use Rattle.std.specs.Prelude.{ℕ, ◌+◌, ◌-◌, ◌*◌, ◌%◌, ◌^◌, Bool, false, not, ◌&&◌, ◌||◌, ◌==◌}
use Rattle.std.specs.Prelude.{nat_le, ℤ, pos, ◌+ℤ◌, ◌-ℤ◌, ◌*ℤ◌, int_lt, int_le, int_div, int_rem}
use Rattle.std.specs.Prelude.{unsigned_abs}
use Rattle.std.specs.Int.{int_rem_euclid}
use Rattle.m36_word.specs.Bits.{of_bit}
use Rattle.m36_word.specs.Signed.{signed}

-- the result of an operation: a number, whether it is 0, whether its first bit is on, carry, and
-- overflow
pub record SumFields : Type 0 where
  pub value : ℕ
  pub zero : Bool
  pub negative : Bool
  pub carry : Bool
  pub overflow : Bool

-- the first bit of a number is on
abbrev pub is_negative : ℕ → ℕ → Bool
is_negative half v = nat_le half v

-- a number as a result, with this carry and this overflow
abbrev pub result_of : ℕ → ℕ → Bool → Bool → SumFields
result_of half v carry overflow =
    record {
      value = v;
      zero = v == 0;
      negative = is_negative half v;
      carry = carry;
      overflow = overflow;
    }

-- a signed number that k bits can hold
abbrev pub in_range : ℕ → ℤ → Bool
in_range half z = int_le (pos 0 -ℤ pos half) z && int_lt z (pos half)

-- a signed number modulo n, from 0 to n - 1
unfoldable pub modulo : ℤ → ℕ → ℕ
modulo z n = unsigned_abs (int_rem_euclid z (pos n))

-- the sum with a carry in, modulo 2^k
unfoldable pub sum_value : ℕ → ℕ → ℕ → Bool → ℕ
sum_value half x y carry_in = (x + y + of_bit carry_in) % (2 * half)

-- carry of a sum: the unsigned sum is at least 2^k
unfoldable pub sum_carry : ℕ → ℕ → ℕ → Bool → Bool
sum_carry half x y carry_in = nat_le (2 * half) (x + y + of_bit carry_in)

-- overflow of a sum: the signed sum is out of range
unfoldable pub sum_overflow : ℕ → ℕ → ℕ → Bool → Bool
sum_overflow half x y carry_in =
    not (in_range half (signed half x +ℤ signed half y +ℤ pos (of_bit carry_in)))

-- a sum with a carry in
unfoldable pub sum : ℕ → ℕ → ℕ → Bool → SumFields
sum half x y carry_in =
    result_of half (sum_value half x y carry_in) (sum_carry half x y carry_in)
    (sum_overflow half x y carry_in)

-- the difference with a borrow, modulo 2^k
unfoldable pub difference_value : ℕ → ℕ → ℕ → Bool → ℕ
difference_value half x y borrow = (x + 2 * half - (y + of_bit borrow)) % (2 * half)

-- carry of a difference: the unsigned minuend is at least the subtrahend plus the borrow
unfoldable pub difference_carry : ℕ → ℕ → ℕ → Bool → Bool
difference_carry half x y borrow = nat_le (y + of_bit borrow) x

-- overflow of a difference: the signed difference is out of range
unfoldable pub difference_overflow : ℕ → ℕ → ℕ → Bool → Bool
difference_overflow half x y borrow =
    not (in_range half (signed half x -ℤ signed half y -ℤ pos (of_bit borrow)))

-- a difference with a borrow
unfoldable pub difference : ℕ → ℕ → ℕ → Bool → SumFields
difference half x y borrow =
    result_of half (difference_value half x y borrow) (difference_carry half x y borrow)
    (difference_overflow half x y borrow)

-- the negative of a number: 0 minus it; it overflows only for the least number
unfoldable pub negation : ℕ → ℕ → SumFields
negation half x = difference half 0 x false

-- The result of a comparison: zero exactly if both are equal, negative exactly if the first is less
-- as a signed number, carry as for their difference.
pub record ComparisonFields : Type 0 where
  pub zero : Bool
  pub negative : Bool
  pub carry : Bool

-- whether the first number is less than the second, as signed numbers
unfoldable pub is_less : ℕ → ℕ → ℕ → Bool
is_less half x y = int_lt (signed half x) (signed half y)

-- compares two numbers
unfoldable pub comparison : ℕ → ℕ → ℕ → ComparisonFields
comparison half x y =
    record { zero = x == y; negative = is_less half x y; carry = difference_carry half x y false }

-- the signed product of two words, as a number of 72 bits
unfoldable pub product : ℕ → ℕ → ℕ
product x y = modulo (signed (2 ^ 35) x *ℤ signed (2 ^ 35) y) (2 ^ 72)

-- the signed quotient of words, truncated toward zero
unfoldable pub quotient : ℕ → ℕ → ℕ
quotient x y = modulo (int_div (signed (2 ^ 35) x) (signed (2 ^ 35) y)) (2 ^ 36)

-- the remainder, which has the sign of the dividend
unfoldable pub remainder : ℕ → ℕ → ℕ
remainder x y = modulo (int_rem (signed (2 ^ 35) x) (signed (2 ^ 35) y)) (2 ^ 36)

-- A division is refused exactly if the divisor is 0, or if the quotient is out of range, which is
-- only that of -2^35 by -1 (this project's choice).
unfoldable pub is_divide_check : ℕ → ℕ → Bool
is_divide_check x y = (y == 0) || ((x == 2 ^ 35) && (y == 2 ^ 36 - 1))

-- Boolean operations, bit by bit.
-- Multics Processor Manual AL39, "Boolean operation instructions".
use Rattle.std.specs.Prelude.{ℕ, zero, suc, ◌+◌, ◌*◌, ◌/◌, ◌%◌, ◌^◌, Bool, true, false, not, ◌&&◌}
use Rattle.std.specs.Prelude.{◌||◌, ◌==◌, List, [], ◌∷◌, length}
use Rattle.m36_word.specs.Bits.{of_bit}

-- the bits of a number of k bits, the most significant first
unfoldable pub bits_of : ℕ → ℕ → List Bool
bits_of zero v = []
bits_of (suc k) v = (v / 2 ^ k % 2 == 1) ∷ bits_of k v

-- the number with these bits
unfoldable pub number_from : List Bool → ℕ
number_from [] = 0
number_from (b ∷ bits) = of_bit b * 2 ^ length bits + number_from bits

-- an operation on each pair of bits
unfoldable pub each_bit : (Bool → Bool → Bool) → List Bool → List Bool → List Bool
each_bit f [] bits = []
each_bit f (a ∷ more) [] = []
each_bit f (a ∷ more) (b ∷ bits) = f a b ∷ each_bit f more bits

-- an operation on each pair of bits of two numbers of k bits
unfoldable pub bitwise : (Bool → Bool → Bool) → ℕ → ℕ → ℕ → ℕ
bitwise f k x y = number_from (each_bit f (bits_of k x) (bits_of k y))

-- AND of two bits
abbrev pub and_bit : Bool → Bool → Bool
and_bit a b = a && b

-- OR of two bits
abbrev pub or_bit : Bool → Bool → Bool
or_bit a b = a || b

-- EXCLUSIVE OR of two bits
abbrev pub xor_bit : Bool → Bool → Bool
xor_bit true b = not b
xor_bit false b = b

-- the first bit and not the second
abbrev pub and_not_bit : Bool → Bool → Bool
and_not_bit a b = a && not b

-- AND of two numbers of k bits
unfoldable pub and_of : ℕ → ℕ → ℕ → ℕ
and_of k x y = bitwise and_bit k x y

-- OR of two numbers of k bits
unfoldable pub or_of : ℕ → ℕ → ℕ → ℕ
or_of k x y = bitwise or_bit k x y

-- EXCLUSIVE OR of two numbers of k bits
unfoldable pub xor_of : ℕ → ℕ → ℕ → ℕ
xor_of k x y = bitwise xor_bit k x y

-- AND NOT of two numbers of k bits: the bits of the first that the second has not
unfoldable pub and_not_of : ℕ → ℕ → ℕ → ℕ
and_not_of k x y = bitwise and_not_bit k x y

-- Operations on machine words are the same operations on each bit.
use Rattle.std.proofs.Common.{ℕ, zero, suc, ◌≡◌, ◌+◌, ◌-◌, ◌*◌, ◌%◌, ◌^◌, ◌<◌, ◌≤◌, min, max, Bool, ◌==◌, length, refl, sym, ap, ◌∙◌, arith}
use Rattle.std.specs.Prelude.{bit_and, bit_or, bit_xor}
use Rattle.std.specs.Int.{Width, w32, w64, bit_at, bit_not}
use mir.Val.{bits}
use Rattle.std.proofs.lemmas.Nat.{mod-pow-add, pow-add, and_le_l, or_lt, xor_lt}
use Rattle.std.proofs.lemmas.Nat.Bits.{bit_at_and, bit_at_or, bit_at_xor, bit_at_not, bit_at-lt, bit_at_cat_low, bit_at_cat_high}
use Rattle.std.proofs.Math.Nat.{mod-eq_of_lt, mod-one}
use Rattle.m36_word.specs.Bits.{of_bit}
use Rattle.m36_model.specs.Booleans.{bits_of, number_from, each_bit, bitwise, and_bit, or_bit, xor_bit, and_not_bit, and_of, or_of, xor_of, and_not_of}

-- the number of bits is the width
length_is : (f : Bool → Bool → Bool) (k x y : ℕ) → length (each_bit f (bits_of k x) (bits_of k y)) ≡ k
unfolding bits_of each_bit
length_is f zero x y = refl
length_is f (suc k) x y = ap suc (length_is f k x y)

-- one more bit at the front
front : (f : Bool → Bool → Bool) (k x y : ℕ) → bitwise f (suc k) x y ≡ of_bit (f (bit_at x k == 1) (bit_at y k == 1)) * 2 ^ k + bitwise f k x y
unfolding bitwise bits_of each_bit number_from
front f k x y =
    ap (λ n. of_bit (f (bit_at x k == 1) (bit_at y k == 1)) * 2 ^ n + bitwise f k x y) (length_is f k x y)

-- the number with these bits
bitwise_is : (f : Bool → Bool → Bool) (k x y z : ℕ) → ((i : ℕ) → i < k → bit_at z i ≡ of_bit (f (bit_at x i == 1) (bit_at y i == 1))) → bitwise f k x y ≡ z % 2 ^ k
unfolding bitwise bits_of each_bit number_from
bitwise_is f zero x y z same = sym (mod-one z)
bitwise_is f (suc k) x y z same =
    front f k x y
    ∙ (ap (λ b. b * 2 ^ k + bitwise f k x y) (sym (same k (omega arith)))
    ∙ (ap (λ n. bit_at z k * 2 ^ k + n) (bitwise_is f k x y z (λ i below. same i (omega arith)))
    ∙ (sym (mod-pow-add z 1 k) ∙ ap (λ n. z % 2 ^ n) (omega arith))))

-- one bit of each operation
both : (a b : ℕ) → a < 2 → b < 2 → min a b ≡ of_bit (and_bit (a == 1) (b == 1))
both a b p q = grind arith

either : (a b : ℕ) → a < 2 → b < 2 → max a b ≡ of_bit (or_bit (a == 1) (b == 1))
either a b p q = grind arith

one_of : (a b : ℕ) → a < 2 → b < 2 → (a + b) % 2 ≡ of_bit (xor_bit (a == 1) (b == 1))
one_of a b p q = grind arith

first_alone : (a b : ℕ) → a < 2 → b < 2 → min a (1 - b) ≡ of_bit (and_not_bit (a == 1) (b == 1))
first_alone a b p q = grind arith

-- the low bits of the machine word's result
pub and_low : (k x y : ℕ) → and_of k x y ≡ bit_and x y % 2 ^ k
unfolding and_of
and_low k x y =
    bitwise_is and_bit k x y (bit_and x y) (λ i below. bit_at_and x y i ∙ both (bit_at x i) (bit_at y i) (bit_at-lt x i) (bit_at-lt y i))

pub or_low : (k x y : ℕ) → or_of k x y ≡ bit_or x y % 2 ^ k
unfolding or_of
or_low k x y =
    bitwise_is or_bit k x y (bit_or x y) (λ i below. bit_at_or x y i ∙ either (bit_at x i) (bit_at y i) (bit_at-lt x i) (bit_at-lt y i))

pub xor_low : (k x y : ℕ) → xor_of k x y ≡ bit_xor x y % 2 ^ k
unfolding xor_of
xor_low k x y =
    bitwise_is xor_bit k x y (bit_xor x y) (λ i below. bit_at_xor x y i ∙ one_of (bit_at x i) (bit_at y i) (bit_at-lt x i) (bit_at-lt y i))

and_not_low : (w : Width) (k x y : ℕ) → y < 2 ^ bits w → k ≤ bits w → and_not_of k x y ≡ bit_and x (bit_not w y) % 2 ^ k
unfolding and_not_of
and_not_low w k x y fits within =
    bitwise_is and_not_bit k x y (bit_and x (bit_not w y)) (λ i below. bit_at_and x (bit_not w y) i
    ∙ (ap (λ b. min (bit_at x i) b) (bit_at_not w y i fits (omega arith)) ∙ first_alone (bit_at x i) (bit_at y i) (bit_at-lt x i) (bit_at-lt y i)))

-- words in machine words of 64 bits, and halves in those of 32
pub and_not_word : (x y : ℕ) → y < 2 ^ 36 → and_not_of 36 x y ≡ bit_and x (18446744073709551615 - y) % 2 ^ 36
and_not_word x y fits = and_not_low w64 36 x y (omega arith) (omega arith)

-- the machine word's result fits without a modulus
pub and_half : (x y : ℕ) → x < 2 ^ 18 → and_of 18 x y ≡ bit_and x y
and_half x y fits = and_low 18 x y ∙ mod-eq_of_lt (omega (arith, and_le_l x y))

pub or_half : (x y : ℕ) → x < 2 ^ 18 → y < 2 ^ 18 → or_of 18 x y ≡ bit_or x y
or_half x y fits fits_too = or_low 18 x y ∙ mod-eq_of_lt (or_lt 18 x y fits fits_too)

pub xor_half : (x y : ℕ) → x < 2 ^ 18 → y < 2 ^ 18 → xor_of 18 x y ≡ bit_xor x y
xor_half x y fits fits_too = xor_low 18 x y ∙ mod-eq_of_lt (xor_lt 18 x y fits fits_too)

pub or_below : (x y : ℕ) → x < 2 ^ 18 → y < 2 ^ 18 → bit_or x y < 2 ^ 18
or_below x y fits fits_too = or_lt 18 x y fits fits_too

pub xor_below : (x y : ℕ) → x < 2 ^ 18 → y < 2 ^ 18 → bit_xor x y < 2 ^ 18
xor_below x y fits fits_too = xor_lt 18 x y fits fits_too

pub and_not_half : (x y : ℕ) → x < 2 ^ 18 → y < 2 ^ 18 → and_not_of 18 x y ≡ bit_and x (4294967295 - y)
and_not_half x y fits fits_too =
    and_not_low w32 18 x y (omega arith) (omega arith) ∙ mod-eq_of_lt (omega (arith, and_le_l x (4294967295 - y)))

-- a pair of words, word by word
same_low : (f : Bool → Bool → Bool) (j k e o d p : ℕ) → j ≤ k → bitwise f j (e * 2 ^ k + o) (d * 2 ^ k + p) ≡ bitwise f j o p
unfolding bitwise bits_of each_bit number_from
same_low f zero k e o d p within = refl
same_low f (suc j) k e o d p within =
    front f j (e * 2 ^ k + o) (d * 2 ^ k + p)
    ∙ (ap (λ n. of_bit (f (bit_at (e * 2 ^ k + o) j == 1) (bit_at (d * 2 ^ k + p) j == 1)) * 2 ^ j + n) (same_low f j k e o d p (omega arith))
    ∙ (rw (bit_at_cat_low e k o j (omega arith), bit_at_cat_low d k p j (omega arith)) (sym (front f j o p))))

regroup : (c a b u r : ℕ) → c * (a * b) + (u * b + r) ≡ (c * a + u) * b + r
regroup c a b u r = omega arith

above : (j k m : ℕ) → suc m ≡ suc j + k → (m ≡ j + k) × (k ≤ m) × (m - k ≡ j)
above j k m e = (omega arith, omega arith, omega arith)

bitwise_pair : (f : Bool → Bool → Bool) (j k n e o d p : ℕ) → n ≡ j + k → o < 2 ^ k → p < 2 ^ k → bitwise f n (e * 2 ^ k + o) (d * 2 ^ k + p) ≡ bitwise f j e d * 2 ^ k + bitwise f k o p
unfolding bitwise bits_of each_bit number_from
bitwise_pair f zero k n e o d p whole in_low in_low_too =
    ap (λ m. bitwise f m (e * 2 ^ k + o) (d * 2 ^ k + p)) (whole ∙ omega arith)
    ∙ (same_low f k k e o d p (omega arith) ∙ omega arith)
bitwise_pair f (suc j) k zero e o d p whole in_low in_low_too = absurd (omega arith)
bitwise_pair f (suc j) k (suc m) e o d p whole in_low in_low_too =
    let at = above j k m whole in
    let first : bit_at (e * 2 ^ k + o) m ≡ bit_at e j = bit_at_cat_high e k o m in_low at.1 ∙ ap (λ n. bit_at e n) at.2 in
    let second : bit_at (d * 2 ^ k + p) m ≡ bit_at d j = bit_at_cat_high d k p m in_low_too at.1 ∙ ap (λ n. bit_at d n) at.2 in
    let power : 2 ^ m ≡ 2 ^ j * 2 ^ k = ap (λ n. 2 ^ n) at.0 ∙ pow-add 2 j k in
    let c = of_bit (f (bit_at e j == 1) (bit_at d j == 1)) in
    front f m (e * 2 ^ k + o) (d * 2 ^ k + p)
    ∙ (rw (first, second, power, bitwise_pair f j k m e o d p at.0 in_low in_low_too) (regroup c (2 ^ j) (2 ^ k) (bitwise f j e d) (bitwise f k o p))
    ∙ ap (λ n. n * 2 ^ k + bitwise f k o p) (sym (front f j e d)))

pub and_pair : (e o d p : ℕ) → o < 2 ^ 36 → p < 2 ^ 36 → and_of 72 (e * 2 ^ 36 + o) (d * 2 ^ 36 + p) ≡ and_of 36 e d * 2 ^ 36 + and_of 36 o p
unfolding and_of
and_pair e o d p in_low in_low_too = bitwise_pair and_bit 36 36 72 e o d p refl in_low in_low_too

pub or_pair : (e o d p : ℕ) → o < 2 ^ 36 → p < 2 ^ 36 → or_of 72 (e * 2 ^ 36 + o) (d * 2 ^ 36 + p) ≡ or_of 36 e d * 2 ^ 36 + or_of 36 o p
unfolding or_of
or_pair e o d p in_low in_low_too = bitwise_pair or_bit 36 36 72 e o d p refl in_low in_low_too

pub xor_pair : (e o d p : ℕ) → o < 2 ^ 36 → p < 2 ^ 36 → xor_of 72 (e * 2 ^ 36 + o) (d * 2 ^ 36 + p) ≡ xor_of 36 e d * 2 ^ 36 + xor_of 36 o p
unfolding xor_of
xor_pair e o d p in_low in_low_too = bitwise_pair xor_bit 36 36 72 e o d p refl in_low in_low_too

pub and_not_pair : (e o d p : ℕ) → o < 2 ^ 36 → p < 2 ^ 36 → and_not_of 72 (e * 2 ^ 36 + o) (d * 2 ^ 36 + p) ≡ and_not_of 36 e d * 2 ^ 36 + and_not_of 36 o p
unfolding and_not_of
and_not_pair e o d p in_low in_low_too = bitwise_pair and_not_bit 36 36 72 e o d p refl in_low in_low_too

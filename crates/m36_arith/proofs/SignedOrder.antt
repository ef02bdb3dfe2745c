-- Signed sums, differences and order of numbers below 2 * half, by these numbers plus half.
use Rattle.std.proofs.Common.{ℕ, ◌≡◌, ◌+◌, ◌-◌, ◌*◌, ◌%◌, ◌<◌, ◌≤◌, Bool, true, false, not, ◌&&◌, nat_lt, nat_le, ℤ, pos, ◌+ℤ◌, ◌-ℤ◌, refl, ap, ◌∙◌, inl, inr, arith}
use Rattle.std.proofs.lemmas.Bool.{cases_lt}
use Rattle.std.proofs.Math.Nat.{mod-eq_of_lt, mod-eq-sub-mod}
use Rattle.std.specs.Prelude.{int_le, int_lt}
use Rattle.std.proofs.lemmas.Int.{ints}
use Rattle.m36_word.specs.Bits.{of_bit}
use Rattle.m36_word.specs.Signed.{signed}
use Rattle.m36_model.specs.Arithmetic.{in_range, sum_overflow, difference_overflow, is_less}

-- a signed number plus half of its range
biased_is : (half a x : ℕ) → (a < half → x ≡ a + half) → (half ≤ a → x + half ≡ a) → signed half a +ℤ pos half ≡ pos x
unfolding signed
biased_is half a x low high = grind (arith, ints)

-- whether a signed number fits, by the number plus the whole range
at_least : (half n : ℕ) (z : ℤ) → z +ℤ pos (2 * half) ≡ pos n → int_le (pos 0 -ℤ pos half) z ≡ nat_le half n
at_least half n z e = grind (arith, ints)

below : (half n : ℕ) (z : ℤ) → z +ℤ pos (2 * half) ≡ pos n → int_lt z (pos half) ≡ nat_lt n (3 * half)
below half n z e = grind (arith, ints)

pub fits_is : (half n : ℕ) (z : ℤ) → z +ℤ pos (2 * half) ≡ pos n → in_range half z ≡ (nat_le half n && nat_lt n (3 * half))
fits_is half n z e = rw (at_least half n z e, below half n z e)

sum_is : (half x y c : ℕ) (u v : ℤ) → u +ℤ pos half ≡ pos x → v +ℤ pos half ≡ pos y → u +ℤ v +ℤ pos c +ℤ pos (2 * half) ≡ pos (x + y + c)
sum_is half x y c u v p q = omega (arith, ints)

difference_is : (half x y c n : ℕ) (u v : ℤ) → u +ℤ pos half ≡ pos x → v +ℤ pos half ≡ pos y → n + (y + c) ≡ x + 2 * half → u -ℤ v -ℤ pos c +ℤ pos (2 * half) ≡ pos n
difference_is half x y c n u v p q e = omega (arith, ints)

less : (half x y : ℕ) (u v : ℤ) → u +ℤ pos half ≡ pos x → v +ℤ pos half ≡ pos y → int_lt u v ≡ nat_lt x y
less half x y u v p q = grind (arith, ints)

pub sum_overflow_is : (half a b : ℕ) (carry : Bool) (x y : ℕ) → (a < half → x ≡ a + half) → (half ≤ a → x + half ≡ a) → (b < half → y ≡ b + half) → (half ≤ b → y + half ≡ b) → sum_overflow half a b carry ≡ not (nat_le half (x + y + of_bit carry) && nat_lt (x + y + of_bit carry) (3 * half))
unfolding sum_overflow
sum_overflow_is half a b carry x y al ah bl bh =
    ap not (fits_is half (x + y + of_bit carry) (signed half a +ℤ signed half b +ℤ pos (of_bit carry)) (sum_is half x y (of_bit carry) (signed half a) (signed half b) (biased_is half a x al ah) (biased_is half b y bl bh)))

pub difference_overflow_is : (half a b : ℕ) (borrow : Bool) (x y : ℕ) → (a < half → x ≡ a + half) → (half ≤ a → x + half ≡ a) → (b < half → y ≡ b + half) → (half ≤ b → y + half ≡ b) → y + of_bit borrow ≤ 2 * half → difference_overflow half a b borrow ≡ not (nat_le half (x + 2 * half - (y + of_bit borrow)) && nat_lt (x + 2 * half - (y + of_bit borrow)) (3 * half))
unfolding difference_overflow
difference_overflow_is half a b borrow x y al ah bl bh fits =
    ap not (fits_is half (x + 2 * half - (y + of_bit borrow)) (signed half a -ℤ signed half b -ℤ pos (of_bit borrow)) (difference_is half x y (of_bit borrow) (x + 2 * half - (y + of_bit borrow)) (signed half a) (signed half b) (biased_is half a x al ah) (biased_is half b y bl bh) (omega arith)))

pub is_less_is : (half a b x y : ℕ) → (a < half → x ≡ a + half) → (half ≤ a → x + half ≡ a) → (b < half → y ≡ b + half) → (half ≤ b → y + half ≡ b) → is_less half a b ≡ nat_lt x y
unfolding is_less
is_less_is half a b x y al ah bl bh =
    less half x y (signed half a) (signed half b) (biased_is half a x al ah) (biased_is half b y bl bh)

-- a sum modulo 2 * half
sum_below : (half t : ℕ) → t < 2 * half → t % (2 * half) ≡ t
sum_below half t low = mod-eq_of_lt low

sum_above : (half t : ℕ) → 2 * half ≤ t → t < 4 * half → t % (2 * half) + 2 * half ≡ t
sum_above half t high fits =
    let less : t - 2 * half < 2 * half = omega arith in
    let e : t % (2 * half) ≡ t - 2 * half = mod-eq-sub-mod high ∙ mod-eq_of_lt less in
    rw e (omega arith)

-- overflow, if the signs of both numbers are known
both_low : (half a b : ℕ) (carry : Bool) → a < half → b < half → sum_overflow half a b carry ≡ nat_le half (a + b + of_bit carry)
both_low half a b carry p q =
    sum_overflow_is half a b carry (a + half) (b + half) (λ _. refl) (λ h. absurd (omega arith)) (λ _. refl) (λ h. absurd (omega arith)) ∙ grind arith

both_high : (half a b : ℕ) (carry : Bool) → half ≤ a → a < 2 * half → half ≤ b → b < 2 * half → sum_overflow half a b carry ≡ nat_lt (a + b + of_bit carry) (3 * half)
both_high half a b carry p s q t =
    sum_overflow_is half a b carry (a - half) (b - half) (λ h. absurd (omega arith)) (λ _. omega arith) (λ h. absurd (omega arith)) (λ _. omega arith) ∙ grind arith

first_low : (half a b : ℕ) (carry : Bool) → a < half → half ≤ b → b < 2 * half → sum_overflow half a b carry ≡ false
first_low half a b carry p q t =
    sum_overflow_is half a b carry (a + half) (b - half) (λ _. refl) (λ h. absurd (omega arith)) (λ h. absurd (omega arith)) (λ _. omega arith) ∙ grind arith

first_high : (half a b : ℕ) (carry : Bool) → half ≤ a → a < 2 * half → b < half → sum_overflow half a b carry ≡ false
first_high half a b carry p s q =
    sum_overflow_is half a b carry (a - half) (b + half) (λ h. absurd (omega arith)) (λ _. omega arith) (λ _. refl) (λ h. absurd (omega arith)) ∙ grind arith

bit_at_most : (on : Bool) → of_bit on ≤ 1
bit_at_most false = omega arith
bit_at_most true = omega arith

-- a sum overflows if neither number has its sign: by the sign of the sum and that of the first
-- number
pub high_sum_of_low : (half a b : ℕ) (carry : Bool) → a < half → b < 2 * half → half ≤ (a + b + of_bit carry) % (2 * half) → nat_lt b half ≡ sum_overflow half a b carry
high_sum_of_low half a b carry p t s =
    let bit = bit_at_most carry in
    elim (cases_lt b half) [
      | inl q ↦ let o = both_low half a b carry p q in let e = sum_below half (a + b + of_bit carry) (omega arith) in grind arith
      | inr q ↦ let o = first_low half a b carry p q t in grind arith
    ]

pub high_sum_of_high : (half a b : ℕ) (carry : Bool) → half ≤ a → a < 2 * half → b < 2 * half → half ≤ (a + b + of_bit carry) % (2 * half) → nat_lt a half ≡ sum_overflow half a b carry
high_sum_of_high half a b carry p f t s =
    let bit = bit_at_most carry in
    elim (cases_lt b half) [
      | inl q ↦ let o = first_high half a b carry p f q in grind arith
      | inr q ↦ let o = both_high half a b carry p f q t in let e = sum_above half (a + b + of_bit carry) (omega arith) (omega arith) in grind arith
    ]

pub low_sum_of_high : (half a b : ℕ) (carry : Bool) → half ≤ a → a < 2 * half → b < 2 * half → (a + b + of_bit carry) % (2 * half) < half → nat_le half b ≡ sum_overflow half a b carry
low_sum_of_high half a b carry p f t s =
    let bit = bit_at_most carry in
    elim (cases_lt b half) [
      | inl q ↦ let o = first_high half a b carry p f q in grind arith
      | inr q ↦ let o = both_high half a b carry p f q t in let e = sum_above half (a + b + of_bit carry) (omega arith) (omega arith) in grind arith
    ]

pub low_sum_of_low : (half a b : ℕ) (carry : Bool) → a < half → b < 2 * half → (a + b + of_bit carry) % (2 * half) < half → nat_le half a ≡ sum_overflow half a b carry
low_sum_of_low half a b carry p t s =
    let bit = bit_at_most carry in
    elim (cases_lt b half) [
      | inl q ↦ let o = both_low half a b carry p q in let e = sum_below half (a + b + of_bit carry) (omega arith) in grind arith
      | inr q ↦ let o = first_low half a b carry p q t in grind arith
    ]

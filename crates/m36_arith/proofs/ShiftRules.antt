-- Shifts by machine words.
use Rattle.std.proofs.Common.{ℕ, zero, suc, ◌≡◌, ◌≢◌, ◌+◌, ◌-◌, ◌*◌, ◌/◌, ◌%◌, ◌^◌, ◌<◌, ◌≤◌, Bool, true, false, not, ◌&&◌, ◌==◌, negsuc, refl, sym, ap, ◌∙◌, subst, arith}
use Rattle.std.proofs.lemmas.Int.{ints}
use Rattle.std.proofs.lemmas.Bool.{ne_eqb, lt-ltb}
use Rattle.std.proofs.lemmas.Nat.{shl-shr, shr-shr, shr_le, shr_split, mod_low, shr_below, mod_below, mul-add-lt, pow_pos, pow-add}
use Rattle.std.proofs.Math.Nat.{div-eq_of_lt, mod-eq_of_lt, pow-le-pow_right, mul_assoc, zero-mul}
use Rattle.m36_word.specs.Signed.{signed}
use Rattle.m36_model.specs.Arithmetic.{modulo}
use Rattle.m36_model.specs.Shifts.{first_bits, left_shift_carry, copying_right_shift}

-- a power in two parts
power_parts : (k n : ℕ) → k ≤ n → 2 ^ n ≡ 2 ^ (n - k) * 2 ^ k
power_parts k n within = ap (λ m. 2 ^ m) (omega arith) ∙ pow-add 2 (n - k) k

-- a shift by the width or more leaves no bit
pub shifted_out : (v n : ℕ) → 36 ≤ n → v * 2 ^ n % 2 ^ 36 ≡ 0
shifted_out v n past = rw (power_parts 36 n past) (omega arith)

pub all_out : (v n : ℕ) → v < 2 ^ 36 → 36 ≤ n → v / 2 ^ n ≡ 0
all_out v n fits past = div-eq_of_lt (omega (arith, pow-le-pow_right {n = 2} (omega arith) past))

-- the first bits, if they are all within the number and if not
first_within : (k v c : ℕ) → c < k → first_bits k v c ≡ v / 2 ^ (k - 1 - c)
unfolding first_bits
first_within k v c below =
    ap (λ m. v * 2 ^ (c + 1) / 2 ^ m) (omega arith)
    ∙ (sym (shr-shr (v * 2 ^ (c + 1)) (c + 1) (k - 1 - c)) ∙ ap (λ m. m / 2 ^ (k - 1 - c)) (shl-shr v (c + 1)))

first_past : (k v c : ℕ) → k ≤ c → first_bits k v c ≡ v * 2 ^ (c + 1 - k)
unfolding first_bits
first_past k v c past =
    let within : k ≤ c + 1 = omega arith in
    ap (λ m. v * m / 2 ^ k) (power_parts k (c + 1) within)
    ∙ (ap (λ m. m / 2 ^ k) (sym (mul_assoc v (2 ^ (c + 1 - k)) (2 ^ k))) ∙ shl-shr (v * 2 ^ (c + 1 - k)) k)

-- past the number, one of them is a zero
even_number : (v p q : ℕ) → 0 < q → v * (2 * p) ≢ 2 * q - 1
even_number v p q some e = omega arith

not_ones : (k v c : ℕ) → k ≤ c → v * 2 ^ (c + 1 - k) ≢ 2 ^ (c + 1) - 1
not_ones k v c past e =
    let p : 2 ^ (c + 1 - k) ≡ 2 * 2 ^ (c - k) = ap (λ m. 2 ^ m) (omega arith) ∙ pow-add 2 1 (c - k) in
    let q : 2 ^ (c + 1) ≡ 2 * 2 ^ c = ap (λ m. 2 ^ m) (omega arith) ∙ pow-add 2 1 c in
    even_number v (2 ^ (c - k)) (2 ^ c) (pow_pos c) (ap (λ m. v * m) (sym p) ∙ (e ∙ ap (λ m. m - 1) q))

no_bits : (v m : ℕ) → 0 < m → (v * m == 0) ≡ (v == 0)
no_bits zero m some = ap (λ n. n == 0) (zero-mul m)
no_bits (suc v) m some = ne_eqb (suc v * m) 0 (λ e. omega arith) ∙ sym (ne_eqb (suc v) 0 (λ e. omega arith))

and_true : (b : Bool) → (b && not false) ≡ b
and_true true = refl
and_true false = refl

pub carry_past : (k v c : ℕ) → k ≤ c → left_shift_carry k v c ≡ not (v == 0)
unfolding left_shift_carry
carry_past k v c past =
    rw (first_past k v c past, no_bits v (2 ^ (c + 1 - k)) (pow_pos (c + 1 - k)), ne_eqb (v * 2 ^ (c + 1 - k)) (2 ^ (c + 1) - 1) (not_ones k v c past)) (and_true (not (v == 0)))

carry_inside : (k v c : ℕ) → c < k → left_shift_carry k v c ≡ (not (v / 2 ^ (k - 1 - c) == 0) && not (v / 2 ^ (k - 1 - c) == 2 ^ (c + 1) - 1))
unfolding left_shift_carry
carry_inside k v c below = rw (first_within k v c below)

pub carry_within : (v c : ℕ) → c < 36 → left_shift_carry 36 v c ≡ (not (v / 2 ^ (35 - c) == 0) && not (v / 2 ^ (35 - c) == 2 ^ (c + 1) - 1))
carry_within v c below = carry_inside 36 v c below

pub carry_within_wide : (v c : ℕ) → c < 72 → left_shift_carry 72 v c ≡ (not (v / 2 ^ (71 - c) == 0) && not (v / 2 ^ (71 - c) == 2 ^ (c + 1) - 1))
carry_within_wide v c below = carry_inside 72 v c below

-- right shifts that copy the sign
copied_low : (k v c half : ℕ) → 2 ^ (k - 1) ≡ half → v < half → v < 2 ^ k → copying_right_shift k v c ≡ v / 2 ^ c
unfolding copying_right_shift signed modulo
copied_low k v c half e low fits =
    rw (e, lt-ltb v half low) (mod-eq_of_lt (omega (arith, shr_le v c)))

negative : (half v m : ℕ) → half ≤ v → v + suc m ≡ 2 * half → signed half v ≡ negsuc m
unfolding signed
negative half v m high e = grind (arith, ints)

copied_high : (k v c half m : ℕ) → 2 ^ (k - 1) ≡ half → 2 ^ k ≡ 2 * half → half ≤ v → v + suc m ≡ 2 ^ k → copying_right_shift k v c ≡ 2 ^ k - 1 - m / 2 ^ c
unfolding copying_right_shift modulo
copied_high k v c half m e whole high apart =
    rw (e, negative half v m high (apart ∙ whole)) (ap (λ n. 2 ^ k - 1 - n) (mod-eq_of_lt (omega (arith, shr_le m c))))

pub copied_zeros : (v c : ℕ) → v < 2 ^ 35 → copying_right_shift 36 v c ≡ v / 2 ^ c
copied_zeros v c low = copied_low 36 v c (2 ^ 35) refl low (omega arith)

pub copied_ones : (v c : ℕ) → 2 ^ 35 ≤ v → v < 2 ^ 36 → copying_right_shift 36 v c ≡ 2 ^ 36 - 1 - (2 ^ 36 - 1 - v) / 2 ^ c
copied_ones v c high fits = copied_high 36 v c (2 ^ 35) (2 ^ 36 - 1 - v) refl refl high (omega arith)

pub copied_zeros_wide : (v c : ℕ) → v < 2 ^ 71 → copying_right_shift 72 v c ≡ v / 2 ^ c
copied_zeros_wide v c low = copied_low 72 v c (2 ^ 71) refl low (omega arith)

pub copied_ones_wide : (v c : ℕ) → 2 ^ 71 ≤ v → v < 2 ^ 72 → copying_right_shift 72 v c ≡ 2 ^ 72 - 1 - (2 ^ 72 - 1 - v) / 2 ^ c
copied_ones_wide v c high fits = copied_high 72 v c (2 ^ 71) (2 ^ 72 - 1 - v) refl refl high (omega arith)

-- the bits that stay in a rotation, and that those that leave fit below them
stays : (k v d : ℕ) → d ≤ k → v * 2 ^ d % 2 ^ k ≡ v % 2 ^ (k - d) * 2 ^ d
stays k v d within =
    let a = 2 ^ (k - d) in
    let b = 2 ^ d in
    let power : 2 ^ k ≡ a * b = power_parts d k within in
    let rest : v % a < a = mod_below v a (pow_pos (k - d)) in
    let fits : v % a * b < 2 ^ k = rw power (mul-lt_right (v % a) a b rest (pow_pos d)) in
    ap (λ n. n * b % 2 ^ k) (sym (shr_split v (k - d)))
    ∙ (ap (λ n. n % 2 ^ k) (spread (v / a) a (v % a) b ∙ ap (λ n. v / a * n + v % a * b) (sym power))
    ∙ mod_low (v / a) k (v % a * b) fits)
  where
    spread : (h a r b : ℕ) → (h * a + r) * b ≡ h * (a * b) + r * b
    spread h a r b = omega arith

    mul-lt_right : (r a b : ℕ) → r < a → 0 < b → r * b < a * b
    mul-lt_right r a b below some = omega (arith, mul-add-lt r b 0 a below some)

turned_below : (k v d : ℕ) → d ≤ k → v < 2 ^ k → v * 2 ^ d % 2 ^ k + v / 2 ^ (k - d) < 2 ^ k
turned_below k v d within fits =
    let whole : k ≡ d + (k - d) = omega arith in
    let out : v / 2 ^ (k - d) < 2 ^ d = shr_below v d (k - d) (subst (λ m. v < 2 ^ m) whole fits) in
    let rest : v % 2 ^ (k - d) < 2 ^ (k - d) = mod_below v (2 ^ (k - d)) (pow_pos (k - d)) in
    rw (stays k v d within, power_parts d k within) (omega (arith, mul-add-lt (v % 2 ^ (k - d)) (2 ^ d) (v / 2 ^ (k - d)) (2 ^ (k - d)) rest out))

-- the same, with the bits above the number dropped
pub rotated_below : (v n : ℕ) → v < 2 ^ 36 → v * 2 ^ (n % 36) % 2 ^ 64 % 2 ^ 36 + v / 2 ^ (36 - n % 36) < 2 ^ 36
rotated_below v n fits = omega (arith, turned_below 36 v (n % 36) (omega arith) fits)

pub rotated_below_wide : (v n : ℕ) → v < 2 ^ 72 → v * 2 ^ (n % 72) % 2 ^ 128 % 2 ^ 72 + v / 2 ^ (72 - n % 72) < 2 ^ 72
rotated_below_wide v n fits = omega (arith, turned_below 72 v (n % 72) (omega arith) fits)

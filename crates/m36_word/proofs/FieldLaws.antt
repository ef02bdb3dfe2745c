-- Lemmas about a number that consists of a part above a field, the field, and a part below it.
use Rattle.std.proofs.Common.{ℕ, ◌≡◌, ◌+◌, ◌-◌, ◌*◌, ◌/◌, ◌%◌, ◌^◌, ◌<◌, ◌≤◌, inl, inr, sym, ap, ◌∙◌, subst, arith}
use Rattle.std.specs.Int.{bit_at}
use Rattle.std.proofs.lemmas.Nat.{shr-shr, shr_high, mod_low, shr_split, shr_below, shl_whole, one_shl, pow_pos, pow-add, mod_below, mul-add-lt}
use Rattle.std.proofs.lemmas.Nat.Bits.{bit_at_cat_low, bit_at_cat_high}
use Rattle.std.proofs.Math.Nat.{pow-le-pow_right}
use Rattle.m36_word.specs.Field.{with_field, GetsWhatWasPut, KeepsOtherBits, ReplacesFirstPut}

-- the part above the field
part_above : (q v r len k : ℕ) → v < 2 ^ len → r < 2 ^ k → ((q * 2 ^ len + v) * 2 ^ k + r) / 2 ^ (k + len) ≡ q
part_above q v r len k in_field in_rest =
    sym (shr-shr ((q * 2 ^ len + v) * 2 ^ k + r) k len)
    ∙ (ap (λ n. n / 2 ^ len) (shr_high (q * 2 ^ len + v) k r in_rest) ∙ shr_high q len v in_field)

-- the number of bits below the part above a field that begins at bit `first`
from_lowest : (first len : ℕ) → first + len ≤ 36 → 36 - first ≡ 36 - first - len + len
from_lowest first len inside = omega arith

-- a put keeps the part above the field
kept_above : (w first len v : ℕ) → first + len ≤ 36 → v < 2 ^ len
    → with_field w first len v / 2 ^ (36 - first) ≡ w / 2 ^ (36 - first)
kept_above w first len v inside fits =
    ap (λ n. with_field w first len v / 2 ^ n) (from_lowest first len inside)
    ∙ part_above (w / 2 ^ (36 - first)) v (w % 2 ^ (36 - first - len)) len (36 - first - len) fits (mod_below w (2 ^ (36 - first - len)) (pow_pos (36 - first - len)))

-- a put keeps the part below the field
kept_below : (w first len v : ℕ) → with_field w first len v % 2 ^ (36 - first - len) ≡ w % 2 ^ (36 - first - len)
kept_below w first len v =
    mod_low (w / 2 ^ (36 - first) * 2 ^ len + v) (36 - first - len) (w % 2 ^ (36 - first - len)) (mod_below w (2 ^ (36 - first - len)) (pow_pos (36 - first - len)))

pub gets_what_was_put : GetsWhatWasPut
gets_what_was_put w first len v some inside fits =
    ap (λ n. n % 2 ^ len) (shr_high (w / 2 ^ (36 - first) * 2 ^ len + v) (36 - first - len) (w % 2 ^ (36 - first - len)) (mod_below w (2 ^ (36 - first - len)) (pow_pos (36 - first - len))))
    ∙ mod_low (w / 2 ^ (36 - first)) len v fits

-- two numbers with the same low k bits have the same bits there, and likewise for the high bits
same_bit_below : (a b k i : ℕ) → a % 2 ^ k ≡ b % 2 ^ k → i < k → bit_at a i ≡ bit_at b i
same_bit_below a b k i same below =
    sym (ap (λ n. bit_at n i) (shr_split a k)) ∙ (bit_at_cat_low (a / 2 ^ k) k (a % 2 ^ k) i below
    ∙ (ap (λ n. bit_at n i) same
    ∙ (sym (bit_at_cat_low (b / 2 ^ k) k (b % 2 ^ k) i below) ∙ ap (λ n. bit_at n i) (shr_split b k))))

same_bit_above : (a b k i : ℕ) → a / 2 ^ k ≡ b / 2 ^ k → k ≤ i → bit_at a i ≡ bit_at b i
same_bit_above a b k i same above =
    sym (ap (λ n. bit_at n i) (shr_split a k)) ∙ (bit_at_cat_high (a / 2 ^ k) k (a % 2 ^ k) i (mod_below a (2 ^ k) (pow_pos k)) above
    ∙ (ap (λ n. bit_at n (i - k)) same
    ∙ (sym (bit_at_cat_high (b / 2 ^ k) k (b % 2 ^ k) i (mod_below b (2 ^ k) (pow_pos k)) above) ∙ ap (λ n. bit_at n i) (shr_split b k))))

pub keeps_other_bits : KeepsOtherBits
keeps_other_bits w first len v i some inside fits within apart =
    elim apart [
      | inl before ↦ same_bit_above (with_field w first len v) w (36 - first) (36 - i - 1) (kept_above w first len v inside fits) (omega arith)
      | inr behind ↦ same_bit_below (with_field w first len v) w (36 - first - len) (36 - i - 1) (kept_below w first len v) (omega arith)
    ]

pub replaces_first_put : ReplacesFirstPut
replaces_first_put w first len v u some inside fits fits_again =
    ap (λ q. (q * 2 ^ len + u) * 2 ^ (36 - first - len) + with_field w first len v % 2 ^ (36 - first - len)) (kept_above w first len v inside fits)
    ∙ ap (λ r. (w / 2 ^ (36 - first) * 2 ^ len + u) * 2 ^ (36 - first - len) + r) (kept_below w first len v)

-- The sums and shifts that `put` computes do not overflow.
shifted_above : (w first len : ℕ) → w < 2 ^ 36 → first + len ≤ 36 → w / 2 ^ (36 - first) < 2 ^ first
shifted_above w first len in_word inside =
    shr_below w first (36 - first) (subst (λ (n : ℕ). w < 2 ^ n) (let e : 36 ≡ first + (36 - first) = omega arith in e) in_word)

sum_above : (w first len v : ℕ) → w < 2 ^ 36 → first + len ≤ 36 → v < 2 ^ len → w / 2 ^ (36 - first) * 2 ^ len + v < 2 ^ (first + len)
sum_above w first len v in_word inside fits =
    rw (pow-add 2 first len)
    (let e : 2 ^ first * 2 ^ len ≡ 2 ^ len * 2 ^ first = omega arith in
    rw e (mul-add-lt (w / 2 ^ (36 - first)) (2 ^ len) v (2 ^ first) (shifted_above w first len in_word inside) fits))

shift_above : (w first len : ℕ) → w < 2 ^ 36 → first + len ≤ 36 → w / 2 ^ (36 - first) * 2 ^ len % 2 ^ 64 ≡ w / 2 ^ (36 - first) * 2 ^ len
shift_above w first len in_word inside =
    shl_whole (w / 2 ^ (36 - first)) first len 64 (shifted_above w first len in_word inside) (omega arith)

-- the first sum of `put`
pub above_fits : (w first len v : ℕ) → w < 2 ^ 36 → first + len ≤ 36 → v < 2 ^ len → w / 2 ^ (36 - first) * 2 ^ len % 2 ^ 64 + v < 2 ^ 64
above_fits w first len v in_word inside fits =
    let sum = sum_above w first len v in_word inside fits in
    let high : 2 ^ (first + len) ≤ 2 ^ 36 = pow-le-pow_right (omega arith) inside in
    rw (shift_above w first len in_word inside) (omega arith)

pub put_below : (w first len v : ℕ) → w < 2 ^ 36 → first + len ≤ 36 → v < 2 ^ len → with_field w first len v < 2 ^ 36
put_below w first len v in_word inside fits =
    let e : 2 ^ 36 ≡ 2 ^ (36 - first - len) * 2 ^ (first + len) =
    ap (λ n. 2 ^ n) (let whole : 36 ≡ 36 - first - len + (first + len) = omega arith in whole) ∙ pow-add 2 (36 - first - len) (first + len) in
    rw e (mul-add-lt (w / 2 ^ (36 - first) * 2 ^ len + v) (2 ^ (36 - first - len)) (w % 2 ^ (36 - first - len)) (2 ^ (first + len)) (sum_above w first len v in_word inside fits) (mod_below w (2 ^ (36 - first - len)) (pow_pos (36 - first - len))))

-- what `put` computes is the word with the field replaced
pub put_is : (w first len v : ℕ) → w < 2 ^ 36 → 1 ≤ len → first + len ≤ 36 → v < 2 ^ len
    → (w / 2 ^ (36 - first) * 2 ^ len % 2 ^ 64 + v) * 2 ^ (36 - first - len) % 2 ^ 64 + w % (1 * 2 ^ (36 - first - len) % 2 ^ 64) ≡ with_field w first len v
put_is w first len v in_word some inside fits =
    rw (
      shift_above w first len in_word inside,
      shl_whole (w / 2 ^ (36 - first) * 2 ^ len + v) (first + len) (36 - first - len) 64 (sum_above w first len v in_word inside fits) (omega arith),
      one_shl (36 - first - len) 64 (omega arith),
    )

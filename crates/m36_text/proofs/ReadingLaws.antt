-- Digits, read one by one.
use Rattle.std.proofs.Common.{ℕ, ◌≡◌, ◌+◌, ◌-◌, ◌*◌, ◌^◌, ◌<◌, ◌≤◌, min, Bool, true, not, List, [], length, map, take, get_or, None, Some, leb, ltb, refl, sym, ◌∙◌, inl, inr, arith}
use Rattle.std.specs.List.{position_or_len}
use Rattle.std.proofs.lemmas.Bool.{cases_lt, and_parts, leb-true, lt-ltb, not-false, cond-true}
use Rattle.std.proofs.lemmas.Int.Digits.{number_more}
use Rattle.std.proofs.lemmas.List.{length-map, take-map, get_or-map}
use Rattle.std.proofs.lemmas.List.Sums.{fails_before_first}
use Rattle.std.proofs.Math.Nat.{min-eq_left, le-mul_of_pos_right, one-le-pow, pow-le-pow_right}
use Rattle.m36_text.specs.Digits.{is_digit}
use Rattle.m36_text.specs.Reading.{first_non_digit, number_of}

some≢none : {n : ℕ} → Some n ≡ None → ⊥
some≢none e = cc

pub capped : (x b d c : ℕ) → 1 ≤ b → min (min x c * b + d) c ≡ min (x * b + d) c
capped x b d c some =
    elim (cases_lt c x) [
      | inl over ↦ let cap : c ≤ c * b = le-mul_of_pos_right c some in let all : x ≤ x * b = le-mul_of_pos_right x some in let e : min x c ≡ c = omega arith in rw e (omega arith)
      | inr under ↦ rw (min-eq_left under)
    ]

pub number_none : (base : ℕ) → number_of base [] ≡ 0
unfolding number_of
number_none base = refl

pub number_step : (base : ℕ) (text : List ℕ) (i : ℕ) → i < length text
    → number_of base (take (i + 1) text) ≡ number_of base (take i text) * base + (get_or text i 0 - 48)
unfolding number_of
number_step base text i within =
    let digit : ℕ → ℕ = λ byte. byte - 48 in
    rw (← take-map digit (i + 1) text, ← take-map digit i text, number_more base (map digit text) i (rw (length-map text digit) within), get_or-map digit text i 0 0 within)

is_within : (base byte : ℕ) → is_digit base byte ≡ true → (48 ≤ byte) × (byte < 48 + base)
is_within base byte e =
    let both = and_parts (leb 48 byte) (leb byte (47 + base)) e in
    let high : byte ≤ 47 + base = leb-true byte (47 + base) both.1 in
    (leb-true 48 byte both.0, omega (arith, high))

-- if no byte is other than a digit, each byte is one
pub all_digits : (base : ℕ) (text : List ℕ) (k : ℕ) → first_non_digit base text ≡ None → k < length text
    → (48 ≤ get_or text k 0) × (get_or text k 0 < 48 + base)
unfolding first_non_digit
all_digits base text k none within =
    let other : ℕ → Bool = λ byte. not (is_digit base byte) in
    elim (cases_lt k (position_or_len other text)) [
      | inl before ↦ is_within base (get_or text k 0) (not-false (is_digit base (get_or text k 0)) (fails_before_first other text k 0 before))
      | inr found ↦ absurd (some≢none (sym (cond-true (ltb (position_or_len other text) (length text)) (Some (position_or_len other text)) None (lt-ltb (position_or_len other text) (length text) (omega arith))) ∙ none))
    ]

-- a number of this many octal digits fits 64 bits
pub octal_fits : (places : ℕ) → places ≤ 21 → (1 ≤ 8 ^ places) × (8 ^ places < 2 ^ 64)
octal_fits places few =
    let most : 8 ^ places ≤ 8 ^ 21 = pow-le-pow_right {n = 8} (omega arith) {i = places} {j = 21} few in
    (one-le-pow places 8 (omega arith), omega arith)

-- A division is refused exactly if its quotient does not fit into a word.
use Rattle.std.proofs.Common.{ℕ, zero, suc, ◌≡◌, ◌≢◌, ◌+◌, ◌-◌, ◌*◌, ◌/◌, ◌^◌, ◌<◌, ◌≤◌, Bool, true, false, not, ◌&&◌, ◌||◌, ◌==◌, nat_lt, nat_le, pos, neg_ℤ, ◌+ℤ◌, int_div, refl, sym, ap, ◌∙◌, inl, inr, true≢false, arith, div-one, div-le_self}
use Rattle.std.proofs.lemmas.Bool.{cases_lt, lt-ltb, le-ltb, le-leb, eq-eqb, ne_eqb, and_from, and_left, and_right}
use Rattle.std.proofs.lemmas.Int.{ints}
use Rattle.std.proofs.lemmas.Nat.{div_below}
use Rattle.m36_word.specs.Signed.{signed}
use Rattle.m36_model.specs.Arithmetic.{in_range, is_divide_check}
use Rattle.m36_model.specs.Booleans.{xor_bit}
use Rattle.m36_arith.specs.Signs.{with_sign}
use Rattle.m36_arith.specs.Division.{DivisionRefusalLaw}
use Rattle.m36_arith.proofs.SignRules.{positive, negative, quotients}
use Rattle.m36_arith.proofs.SignedOrder.{fits_is}

-- ---- numbers that fit, and numbers that do not

plain_in : (half m : ℕ) → m < half → in_range half (pos m) ≡ true
plain_in half m low =
    fits_is half (m + 2 * half) (pos m) refl
    ∙ and_from (nat_le half (m + 2 * half)) (nat_lt (m + 2 * half) (3 * half)) (le-leb half (m + 2 * half) (omega arith)) (lt-ltb (m + 2 * half) (3 * half) (omega arith))

plain_out : (half m : ℕ) → half ≤ m → in_range half (pos m) ≡ false
plain_out half m high =
    fits_is half (m + 2 * half) (pos m) refl
    ∙ and_right (nat_le half (m + 2 * half)) (nat_lt (m + 2 * half) (3 * half)) (le-ltb (m + 2 * half) (3 * half) (omega arith))

turned_sum : (half m n : ℕ) → n + m ≡ 2 * half → neg_ℤ (pos m) +ℤ pos (2 * half) ≡ pos n
turned_sum half m n e = omega (arith, ints)

turned_in : (half m : ℕ) → 0 < half → m ≤ half → in_range half (neg_ℤ (pos m)) ≡ true
turned_in half m some within =
    fits_is half (2 * half - m) (neg_ℤ (pos m)) (turned_sum half m (2 * half - m) (omega arith))
    ∙ and_from (nat_le half (2 * half - m)) (nat_lt (2 * half - m) (3 * half)) (le-leb half (2 * half - m) (omega arith)) (lt-ltb (2 * half - m) (3 * half) (omega arith))

-- ---- quotients, by signs and magnitudes

quotient_by : (half x y a b : ℕ) (s t : Bool) → signed half x ≡ with_sign s a → signed half y ≡ with_sign t b → 0 < b
    → int_div (signed half x) (signed half y) ≡ with_sign (xor_bit s t) (a / b)
quotient_by half x y a zero s t p q some = absurd (omega arith)
quotient_by half x y a (suc b) s t p q some = rw (p, q) (quotients s t a b)

below_by : (n m half : ℕ) → n ≤ m → m < half → n < half
below_by n m half le lt = omega arith

within_by : (n m half : ℕ) → n ≤ m → m ≤ half → n ≤ half
within_by n m half le within = omega arith

both_plain : (half x y : ℕ) → x < half → y < half → 0 < y → in_range half (int_div (signed half x) (signed half y)) ≡ true
both_plain half x y low low_too some =
    ap (in_range half) (quotient_by half x y x y false false (positive half x x low refl) (positive half y y low_too refl) some)
    ∙ plain_in half (x / y) (below_by (x / y) x half (div-le_self x y) low)

second_turned : (half x y c : ℕ) → x < half → half ≤ y → c + y ≡ 2 * half → 0 < c → in_range half (int_div (signed half x) (signed half y)) ≡ true
second_turned half x y c low high e some =
    ap (in_range half) (quotient_by half x y x c false true (positive half x x low refl) (negative half y c high e) some)
    ∙ turned_in half (x / c) (omega arith) (within_by (x / c) x half (div-le_self x c) (omega arith))

first_turned : (half x y a : ℕ) → half ≤ x → a + x ≡ 2 * half → y < half → 0 < y → in_range half (int_div (signed half x) (signed half y)) ≡ true
first_turned half x y a high e low some =
    ap (in_range half) (quotient_by half x y a y true false (negative half x a high e) (positive half y y low refl) some)
    ∙ turned_in half (a / y) (omega arith) (within_by (a / y) a half (div-le_self a y) (omega arith))

both_turned : (half x y a c : ℕ) → half ≤ x → half ≤ y → a + x ≡ 2 * half → c + y ≡ 2 * half → 0 < c
    → in_range half (int_div (signed half x) (signed half y)) ≡ in_range half (pos (a / c))
both_turned half x y a c high high_too e f some =
    ap (in_range half) (quotient_by half x y a c true true (negative half x a high e) (negative half y c high_too f) some)

-- ---- the test

-- the dividend is not the least number, or the divisor is not -1
not_first : (half top x y : ℕ) (fits : Bool) → x ≢ half → fits ≡ true → ((x == half) && (y == top)) ≡ not fits
not_first half top x y fits differs e = and_left (x == half) (y == top) (ne_eqb x half differs) ∙ sym (ap not e)

not_second : (half top x y : ℕ) (fits : Bool) → y ≢ top → fits ≡ true → ((x == half) && (y == top)) ≡ not fits
not_second half top x y fits differs e = and_right (x == half) (y == top) (ne_eqb y top differs) ∙ sym (ap not e)

less_divided : (half a c : ℕ) → a ≤ half → 0 < half → 2 ≤ c → a / c < half
less_divided half a zero within some more = absurd (omega arith)
less_divided half a (suc zero) within some more = absurd (omega arith)
less_divided half a (suc (suc d)) within some more = div_below a (suc (suc d)) half (omega arith) (omega arith)

divided_by_one : (a c : ℕ) → c ≡ 1 → a / c ≡ a
divided_by_one a c e = ap (λ (n : ℕ). a / n) e ∙ div-one a

reached_by : (n m half : ℕ) → n ≡ m → half ≤ m → half ≤ n
reached_by n m half e within = omega arith

least_first : (half top x y a c : ℕ) → top + 1 ≡ 2 * half → x ≡ half → half ≤ y → a + x ≡ 2 * half → c + y ≡ 2 * half → 0 < c → 0 < half
    → ((x == half) && (y == top)) ≡ not (in_range half (int_div (signed half x) (signed half y)))
least_first half top x y a c last least high e f some_c some =
    elim (cases_lt y top) [
      | inl before ↦
          not_second half top x y (in_range half (int_div (signed half x) (signed half y))) (omega arith)
          (both_turned half x y a c (omega arith) high e f some_c ∙ plain_in half (a / c) (less_divided half a c (omega arith) some (omega arith)))
      | inr reached ↦
          and_from (x == half) (y == top) (eq-eqb x half least) (eq-eqb y top (omega arith))
          ∙ sym (ap not (both_turned half x y a c (omega arith) high e f some_c
          ∙ plain_out half (a / c) (reached_by (a / c) a half (divided_by_one a c (omega arith)) (omega arith))))
    ]

told_turned : (half top x y a c : ℕ) → top + 1 ≡ 2 * half → half ≤ x → half ≤ y → a + x ≡ 2 * half → c + y ≡ 2 * half → 0 < c → 0 < half
    → ((x == half) && (y == top)) ≡ not (in_range half (int_div (signed half x) (signed half y)))
told_turned half top x y a c last high high_too e f some_c some =
    elim (cases_lt half x) [
      | inl past ↦
          not_first half top x y (in_range half (int_div (signed half x) (signed half y))) (omega arith)
          (both_turned half x y a c high high_too e f some_c ∙ plain_in half (a / c) (below_by (a / c) a half (div-le_self a c) (omega arith)))
      | inr least ↦ least_first half top x y a c last (omega arith) high_too e f some_c some
    ]

told_low : (half top x y : ℕ) → x < half → y < 2 * half → 0 < y
    → ((x == half) && (y == top)) ≡ not (in_range half (int_div (signed half x) (signed half y)))
told_low half top x y low in_y some_y =
    elim (cases_lt y half) [
      | inl low_too ↦
          not_first half top x y (in_range half (int_div (signed half x) (signed half y))) (omega arith) (both_plain half x y low low_too some_y)
      | inr high ↦
          not_first half top x y (in_range half (int_div (signed half x) (signed half y))) (omega arith)
          (second_turned half x y (2 * half - y) low high (omega arith) (omega arith))
    ]

told_high : (half top x y : ℕ) → top + 1 ≡ 2 * half → half ≤ x → x < 2 * half → y < 2 * half → 0 < y
    → ((x == half) && (y == top)) ≡ not (in_range half (int_div (signed half x) (signed half y)))
told_high half top x y last high in_x in_y some_y =
    elim (cases_lt y half) [
      | inl low ↦
          not_second half top x y (in_range half (int_div (signed half x) (signed half y))) (omega arith)
          (first_turned half x y (2 * half - x) high (omega arith) low some_y)
      | inr high_too ↦
          told_turned half top x y (2 * half - x) (2 * half - y) last high high_too (omega arith) (omega arith) (omega arith) (omega arith)
    ]

told : (half top x y : ℕ) → top + 1 ≡ 2 * half → x < 2 * half → y < 2 * half → 0 < y
    → ((x == half) && (y == top)) ≡ not (in_range half (int_div (signed half x) (signed half y)))
told half top x y last in_x in_y some_y =
    elim (cases_lt x half) [
      | inl low ↦ told_low half top x y low in_y some_y
      | inr high ↦ told_high half top x y last high in_x in_y some_y
    ]

later_alike : (b p q : Bool) → (b ≡ false → p ≡ q) → (b || p) ≡ (b || q)
later_alike true p q later = refl
later_alike false p q later = later refl

some_of : (y : ℕ) → (y == 0) ≡ false → 0 < y
some_of zero other = absurd (true≢false other)
some_of (suc y) other = omega arith

pub refused_where_no_word : DivisionRefusalLaw
unfolding is_divide_check
refused_where_no_word x y in_x in_y =
    later_alike (y == 0) ((x == 2 ^ 35) && (y == 2 ^ 36 - 1)) (not (in_range (2 ^ 35) (int_div (signed (2 ^ 35) x) (signed (2 ^ 35) y))))
    (λ other. told (2 ^ 35) (2 ^ 36 - 1) x y (omega arith) (omega arith) (omega arith) (some_of y other))

-- The text of a number is parsed as that number.
use Rattle.std.proofs.Common.{ℕ, zero, suc, ◌≡◌, ◌≢◌, ◌+◌, ◌-◌, ◌<◌, ◌≤◌, Bool, true, not, leb, ltb, List, [], ◌∷◌, length, map, get_or, None, Some, Ok, refl, ap, ◌∙◌, arith}
use Rattle.std.specs.List.{position_or_len}
use Rattle.std.specs.Int.Digits.{AllBelowBase, number_from_digits, digits_of}
use Rattle.std.proofs.lemmas.Bool.{cond-false, cond-true, le-ltb, le-leb, and_from, not_from_true}
use Rattle.std.proofs.lemmas.Int.Digits.{number_digits_of, all_below_base_digits_of, first_digits_of}
use Rattle.std.proofs.lemmas.List.Sums.{position_or_len_is}
use Rattle.m36_text.specs.Digits.{digits, digit_character, is_digit, digit_of, octal_text, decimal_text}
use Rattle.m36_text.specs.Reading.{first_non_digit, number_of, number_read, ReadsOctal, ReadsDecimal, DecimalTextHasNoLeadingZero}
use Rattle.m36_text.proofs.DigitLaws.{length_digits, digits_below}
use Rattle.m36_text.proofs.DigitNumbers.{number_of_digits}

no_other : (base : ℕ) (text : List ℕ) → ((k : ℕ) → k < length text → is_digit base (get_or text k 0) ≡ true) → first_non_digit base text ≡ None
unfolding first_non_digit
no_other base text each =
    let other : ℕ → Bool = λ byte. not (is_digit base byte) in
    let whole : position_or_len other text ≡ length text =
    position_or_len_is other text (length text) 0 (omega arith) (λ k below. not_from_true (is_digit base (get_or text k 0)) (each k below)) (λ past. absurd (omega arith)) in
    cond-false (ltb (position_or_len other text) (length text)) (Some (position_or_len other text)) None (le-ltb (position_or_len other text) (length text) (omega arith))

character_is_digit : (base : ℕ) (ds : List ℕ) (k : ℕ) → AllBelowBase base ds → k < length (map digit_character ds) → is_digit base (get_or (map digit_character ds) k 0) ≡ true
character_is_digit base [] k below within = absurd (omega arith)
character_is_digit base (d ∷ ds) zero below within =
    let first = below.0 in
    and_from (leb 48 (48 + d)) (leb (48 + d) (47 + base)) (le-leb 48 (48 + d) (omega arith)) (le-leb (48 + d) (47 + base) (omega (arith, first)))
character_is_digit base (d ∷ ds) (suc k) below within = character_is_digit base ds k below.1 (omega arith)

digits_back : (ds : List ℕ) → map digit_of (map digit_character ds) ≡ ds
digits_back [] = refl
digits_back (d ∷ ds) =
    let first : 48 + d - 48 ≡ d = omega arith in
    λ i. first i ∷ digits_back ds i

number_back : (base : ℕ) (ds : List ℕ) → number_of base (map digit_character ds) ≡ number_from_digits base ds
unfolding number_of
number_back base ds = ap (number_from_digits base) (digits_back ds)

-- a text of digits is parsed as its number
read_back : (base : ℕ) (ds : List ℕ) (max : ℕ) → 0 < length ds → AllBelowBase base ds → number_from_digits base ds ≤ max
    → number_read base (map digit_character ds) max ≡ Ok (number_from_digits base ds)
unfolding number_read
read_back base [] max some below within = absurd (omega arith)
read_back base (d ∷ ds) max some below within =
    rw (no_other base (map digit_character (d ∷ ds)) (λ k. character_is_digit base (d ∷ ds) k below), number_back base (d ∷ ds))
    (cond-true (leb (number_from_digits base (d ∷ ds)) max) _ _ (le-leb (number_from_digits base (d ∷ ds)) max within))

pub reads_octal : ReadsOctal
unfolding octal_text
reads_octal places v max some fits within =
    let whole : number_from_digits 8 (digits 8 places v) ≡ v = number_of_digits 8 places v (omega arith) fits in
    let long : 0 < length (digits 8 places v) = rw (length_digits 8 places v) some in
    read_back 8 (digits 8 places v) max long (digits_below 8 places v (omega arith)) (rw whole within) ∙ ap Ok whole

some_first : (ds : List ℕ) → 0 < get_or ds 0 0 → 0 < length ds
some_first [] first = absurd (omega arith)
some_first (d ∷ ds) first = omega arith

pub reads_decimal : ReadsDecimal
unfolding decimal_text
reads_decimal zero max within = read_back 10 (0 ∷ []) max (omega arith) (omega arith, tt) (omega arith)
reads_decimal (suc v) max within =
    let whole : number_from_digits 10 (digits_of 10 (suc v)) ≡ suc v = number_digits_of 10 (suc v) (omega arith) in
    read_back 10 (digits_of 10 (suc v)) max (some_first (digits_of 10 (suc v)) (first_digits_of 10 (suc v) (omega arith) (omega arith)))
    (all_below_base_digits_of 10 (suc v) (omega arith)) (rw whole within)
    ∙ ap Ok whole

first_character : (ds : List ℕ) → 0 < get_or ds 0 0 → get_or (map digit_character ds) 0 0 ≢ 48
first_character [] first same = absurd (omega arith)
first_character (d ∷ ds) first same = absurd (omega arith)

pub has_no_leading_zero : DecimalTextHasNoLeadingZero
unfolding decimal_text
has_no_leading_zero zero some = absurd (omega arith)
has_no_leading_zero (suc v) some = first_character (digits_of 10 (suc v)) (first_digits_of 10 (suc v) (omega arith) (omega arith))

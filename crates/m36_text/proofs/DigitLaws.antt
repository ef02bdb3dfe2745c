-- How texts of digits grow by a digit.
use Rattle.std.proofs.Common.{ℕ, zero, suc, ◌≡◌, ◌+◌, ◌-◌, ◌/◌, ◌%◌, ◌^◌, ◌<◌, ◌≤◌, List, [], ◌∷◌, ◌++◌, length, map, drop, set, refl, sym, ap, ◌∙◌, arith, add-one, append_assoc}
use Rattle.std.specs.Int.Digits.{digits_of, AllBelowBase}
use Rattle.std.specs.Str.{IsAscii}
use Rattle.std.proofs.lemmas.Str.Ascii.{IsAscii-nil, IsAscii-cons}
use Rattle.std.proofs.lemmas.Int.Digits.{digits_of_step, length-digits_of-le, length-digits_of_step, all_below_base_digits_of}
use Rattle.std.proofs.lemmas.List.{map-append, length-map, drop-set, drop_all}
use Rattle.std.proofs.lemmas.Nat.{mod_below}
use Rattle.std.proofs.Math.Nat.{pow-suc, div-div-eq-div-mul}
use Rattle.m36_text.specs.Digits.{digits, digit_character, octal_text, decimal_text}

pub length_digits : (base places v : ℕ) → length (digits base places v) ≡ places
unfolding digits
length_digits base zero v = refl
length_digits base (suc places) v = ap suc (length_digits base places v)

pub digits_below : (base places v : ℕ) → 0 < base → AllBelowBase base (digits base places v)
unfolding digits
digits_below base zero v some = tt
digits_below base (suc places) v some = (mod_below (v / base ^ places) base some, digits_below base places v some)

characters_ascii : (base : ℕ) (ds : List ℕ) → base ≤ 10 → AllBelowBase base ds → IsAscii (map digit_character ds)
characters_ascii base [] small below = IsAscii-nil
characters_ascii base (d ∷ ds) small below =
    let first = below.0 in
    IsAscii-cons (48 + d) (map digit_character ds) (omega arith) (characters_ascii base ds small below.1)

-- octal

pub octal_none : (v : ℕ) → octal_text 0 v ≡ []
unfolding octal_text digits
octal_none v = refl

pub octal_more : (places v : ℕ) → octal_text (places + 1) v ≡ (48 + v / 8 ^ places % 8) ∷ octal_text places v
unfolding octal_text digits
octal_more places v = rw (add-one places)

pub length_octal : (places v : ℕ) → length (octal_text places v) ≡ places
unfolding octal_text
length_octal places v = length-map (digits 8 places v) digit_character ∙ length_digits 8 places v

pub octal_ascii : (places v : ℕ) → IsAscii (octal_text places v)
unfolding octal_text
octal_ascii places v = characters_ascii 8 (digits 8 places v) (omega arith) (digits_below 8 places v (omega arith))

-- one more digit before those at the end of the buffer
pub octal_written : (place v left : ℕ) (bytes : List ℕ) → length bytes ≡ 22 → place < 22 → left ≡ v / 8 ^ place
    → drop (22 - place) bytes ≡ octal_text place v
    → drop (22 - (place + 1)) (set bytes (21 - place) (48 + left % 8)) ≡ octal_text (place + 1) v
octal_written place v left bytes len room rest written =
    let start : 22 - (place + 1) ≡ 21 - place = omega arith in
    let next : 21 - place + 1 ≡ 22 - place = omega arith in
    rw (start, drop-set bytes (21 - place) (48 + left % 8) (omega arith), next, written, octal_more place v, rest)

pub octal_left : (place v : ℕ) → v / 8 ^ place / 8 ≡ v / 8 ^ (place + 1)
octal_left place v = div-div-eq-div-mul v (8 ^ place) 8 ∙ ap (λ n. v / n) (sym (pow-suc 8 place) ∙ ap (λ n. 8 ^ n) (sym (add-one place)))

-- decimal

pub decimal_last : (v : ℕ) → decimal_text v ≡ map digit_character (digits_of 10 (v / 10)) ++ (48 + v % 10) ∷ []
unfolding decimal_text
decimal_last zero = refl
decimal_last (suc v) = ap (map digit_character) (digits_of_step 10 (suc v) (omega arith) (omega arith)) ∙ map-append digit_character (digits_of 10 (suc v / 10)) (suc v % 10 ∷ [])

pub decimal_more : (v : ℕ) → 0 < v → map digit_character (digits_of 10 v) ≡ map digit_character (digits_of 10 (v / 10)) ++ (48 + v % 10) ∷ []
decimal_more v some = ap (map digit_character) (digits_of_step 10 v (omega arith) some) ∙ map-append digit_character (digits_of 10 (v / 10)) (v % 10 ∷ [])

pub decimal_room : (v : ℕ) → v < 2 ^ 64 → length (digits_of 10 (v / 10)) ≤ 19
decimal_room v fits = length-digits_of-le 10 19 (v / 10) (omega arith) (omega arith)

pub decimal_shorter : (v : ℕ) → 0 < v → length (digits_of 10 v) ≡ length (digits_of 10 (v / 10)) + 1
decimal_shorter v some = length-digits_of_step 10 v (omega arith) some

pub decimal_ascii : (v : ℕ) → IsAscii (decimal_text v)
unfolding decimal_text
decimal_ascii zero = characters_ascii 10 (0 ∷ []) (omega arith) (omega arith, tt)
decimal_ascii (suc v) = characters_ascii 10 (digits_of 10 (suc v)) (omega arith) (all_below_base_digits_of 10 (suc v) (omega arith))

-- one more digit before those at the end of the buffer
pub decimal_written : (start left v : ℕ) (bytes : List ℕ) → length bytes ≡ 20 → start ≤ 20 → 1 ≤ start → 0 < left
    → map digit_character (digits_of 10 left) ++ drop start bytes ≡ decimal_text v
    → map digit_character (digits_of 10 (left / 10)) ++ drop (start - 1) (set bytes (start - 1) (48 + left % 10)) ≡ decimal_text v
decimal_written start left v bytes len within room some written =
    let next : start - 1 + 1 ≡ start = omega arith in
    rw (drop-set bytes (start - 1) (48 + left % 10) (omega arith), next)
    (sym (append_assoc (map digit_character (digits_of 10 (left / 10))) ((48 + left % 10) ∷ []) (drop start bytes))
    ∙ (ap (λ ds. ds ++ drop start bytes) (sym (decimal_more left some)) ∙ written))

pub decimal_begun : (v : ℕ) (bytes : List ℕ) → length bytes ≡ 20
    → map digit_character (digits_of 10 (v / 10)) ++ drop 19 (set bytes 19 (48 + v % 10)) ≡ decimal_text v
decimal_begun v bytes len = rw (drop-set bytes 19 (48 + v % 10) (omega arith), drop_all 20 bytes (omega arith)) (sym (decimal_last v))

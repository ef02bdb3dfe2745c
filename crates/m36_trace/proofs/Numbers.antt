-- The number of a step in decimal, and how it becomes the next number.
use Rattle.std.proofs.Common.{◌≡◌, ℕ, zero, suc, ◌+◌, ◌-◌, ◌/◌, ◌%◌, ◌^◌, ◌<◌, ◌≤◌, List, [], ◌∷◌, ◌++◌, length, take, drop, map, set, get_or, refl, sym, ap, ◌∙◌, arith, length-append}
use Rattle.std.specs.Int.Digits.{digits_of}
use Rattle.std.proofs.lemmas.Int.Digits.{length-digits_of-le}
use Rattle.std.proofs.lemmas.List.{append_assoc, length-set, length-map, length-take-le, take_at, take_more_set, get_or-take, get_or_at, set_at, take-take, take-set, take-append-drop, drop-set, drop-set-lt}
use Rattle.std.proofs.Math.Seq.{take-set-lt}
use borrow.Rule.Slice.PartMut.{put_mid, post_of, same_len_mid}
use Rattle.m36_text.specs.Digits.{digit_character, decimal_text}
use Rattle.m36_text.proofs.DigitLaws.{decimal_last}
use Rattle.m36_trace.specs.Spaced.{with_space}

-- all digits but the last
abbrev front : ℕ → List ℕ
front n = map digit_character (digits_of 10 (n / 10))

length_decimal : (n : ℕ) → length (decimal_text n) ≡ length (digits_of 10 (n / 10)) + 1
length_decimal n =
    ap length (decimal_last n)
    ∙ length-append (front n) ((48 + n % 10) ∷ [])
    ∙ ap (λ k. k + 1) (length-map (digits_of 10 (n / 10)) digit_character)

pub decimal_short : (n : ℕ) → n < 10 ^ 15 → length (decimal_text n) ≤ 15
decimal_short n below =
    let most = length-digits_of-le 10 14 (n / 10) (omega arith) (omega arith) in
    omega (arith, length_decimal n)

pub decimal_some : (n : ℕ) → 0 < length (decimal_text n)
decimal_some n = omega (arith, length_decimal n)

-- digits that were written first, and a space
pub digits_put :
    (bytes digits copied : List ℕ) (size : ℕ)
    → copied ≡ digits → size ≡ length digits → 0 < size → size < length bytes
    → take (size - 1 + 2) (set (put_mid 0 size bytes copied) size 32) ≡ with_space digits
digits_put bytes digits copied size is many some within =
    let end : size - 1 + 2 ≡ size + 1 = omega arith in
    let same : size ≡ length copied = many ∙ ap length (sym is) in
    let all : length (put_mid 0 size bytes copied) ≡ length bytes =
    same_len_mid 0 size bytes copied (sym same ∙ sym (length-take-le size bytes (omega arith))) in
    ap (λ n. take n (set (put_mid 0 size bytes copied) size 32)) end
    ∙ take_more_set (put_mid 0 size bytes copied) size 32 (omega arith)
    ∙ ap (λ l. l ++ 32 ∷ []) (take_at copied (post_of 0 size bytes) size (sym same) ∙ is)

-- the digits of n, the last of them at index `last`, and a space
record LiesAt (bytes : List ℕ) (last n : ℕ) : Type 0 where
  pub place : last ≡ length (front n)
  pub text : take (last + 2) bytes ≡ (front n ++ (48 + n % 10) ∷ []) ++ 32 ∷ []

lies_at :
    (bytes : List ℕ) (last n : ℕ)
    → last + 2 ≤ length bytes → take (last + 2) bytes ≡ with_space (decimal_text n) → LiesAt bytes last n
lies_at bytes last n within spelled =
    let text : take (last + 2) bytes ≡ (front n ++ (48 + n % 10) ∷ []) ++ 32 ∷ [] =
    spelled ∙ ap with_space (decimal_last n) in
    let size : last + 2 ≡ length ((front n ++ (48 + n % 10) ∷ []) ++ 32 ∷ []) =
    sym (length-take-le (last + 2) bytes within) ∙ ap length text in
    record {
      place = omega (arith, size, length-append (front n ++ (48 + n % 10) ∷ []) (32 ∷ []), length-append (front n) ((48 + n % 10) ∷ []));
      text = text;
    }

last_digit_is :
    (bytes : List ℕ) (last n : ℕ)
    → last + 2 ≤ length bytes → LiesAt bytes last n → get_or bytes last 0 ≡ 48 + n % 10
last_digit_is bytes last n within lies =
    sym (get_or-take (last + 2) bytes last 0 (omega arith))
    ∙ ap (λ l. get_or l last 0) (lies.text ∙ append_assoc (front n) ((48 + n % 10) ∷ []) (32 ∷ []))
    ∙ get_or_at (front n) (48 + n % 10) (32 ∷ []) 0 last (sym lies.place)

-- a last digit below 9 that is raised by 1 makes the next number
pub counted :
    (bytes : List ℕ) (last next digit : ℕ)
    → last + 2 ≤ length bytes → 0 < next
    → take (last + 2) bytes ≡ with_space (decimal_text (next - 1))
    → digit ≡ get_or bytes last 0 → digit < 57
    → take (last + 2) (set bytes last (digit + 1)) ≡ with_space (decimal_text (next + 1 - 1))
counted bytes last next digit within some spelled is below =
    let n = next - 1 in
    let lies = lies_at bytes last n within spelled in
    let was = last_digit_is bytes last n within lies in
    let place = lies.place in
    let tens : n / 10 ≡ (next + 1 - 1) / 10 = omega arith in
    let last_is : digit + 1 ≡ 48 + (next + 1 - 1) % 10 = omega arith in
    take-set-lt (last + 2) bytes last (digit + 1) (omega arith)
    ∙ ap (λ l. set l last (digit + 1)) (lies.text ∙ append_assoc (front n) ((48 + n % 10) ∷ []) (32 ∷ []))
    ∙ set_at (front n) (48 + n % 10) (32 ∷ []) (digit + 1) last (sym place)
    ∙ sym (append_assoc (front n) ((digit + 1) ∷ []) (32 ∷ []))
    ∙ ap (λ d. (front n ++ d ∷ []) ++ 32 ∷ []) last_is
    ∙ ap (λ (q : ℕ). (map digit_character (digits_of 10 q) ++ (48 + (next + 1 - 1) % 10) ∷ []) ++ 32 ∷ []) tens
    ∙ ap with_space (sym (decimal_last (next + 1 - 1)))

-- and that number has as many digits
pub few_digits :
    (bytes : List ℕ) (last next digit : ℕ)
    → last + 2 ≤ length bytes → 0 < next → next ≤ 10 ^ 15
    → take (last + 2) bytes ≡ with_space (decimal_text (next - 1))
    → digit ≡ get_or bytes last 0 → digit < 57
    → next + 1 ≤ 10 ^ 15
few_digits bytes last next digit within some few spelled is below =
    let n = next - 1 in
    let was = last_digit_is bytes last n within (lies_at bytes last n within spelled) in
    omega arith

-- ---- a carry

decimal_all : (v : ℕ) → 0 < v → decimal_text v ≡ map digit_character (digits_of 10 v)
unfolding decimal_text
decimal_all zero some = absurd (omega arith)
decimal_all (suc v) some = refl

-- The digits after `place` have become zeros, and those up to `place` are to be increased by 1 as a number: then all
-- digits are those of n + 1.
pub record Carries (all : List ℕ) (place n : ℕ) : Type 0 where
  pub left : ℕ
  pub inside : place + 1 < length all
  pub digits : take (place + 1) all ≡ decimal_text left
  pub rest : decimal_text (left + 1) ++ drop (place + 1) all ≡ with_space (decimal_text (n + 1))

-- the index of the last of those digits, and what precedes it
record EndsAt (all : List ℕ) (place m : ℕ) : Type 0 where
  pub before : take place all ≡ front m
  pub size : length (front m) ≡ place
  pub digit : get_or all place 0 ≡ 48 + m % 10

ends_at : (all : List ℕ) (place n : ℕ) → (c : Carries all place n) → EndsAt all place c.left
ends_at all place n c =
    let m = c.left in
    let inside = c.inside in
    let text : take (place + 1) all ≡ front m ++ (48 + m % 10) ∷ [] = c.digits ∙ decimal_last m in
    let size : length (front m) ≡ place =
    omega (arith, sym (length-take-le (place + 1) all (omega arith)) ∙ ap length text, length-append (front m) ((48 + m % 10) ∷ [])) in
    record {
      before = sym (take-take place (place + 1) all (omega arith))
          ∙ ap (λ l. take place l) text
          ∙ take_at (front m) ((48 + m % 10) ∷ []) place size;
      size = size;
      digit = sym (get_or-take (place + 1) all place 0 (omega arith))
          ∙ ap (λ l. get_or l place 0) text
          ∙ get_or_at (front m) (48 + m % 10) [] 0 place size;
    }

some_tens : (v place : ℕ) → length (digits_of 10 v) ≡ place → 0 < place → 0 < v
some_tens zero place many some =
    let none : length (digits_of 10 0) ≡ 0 = refl in
    absurd (omega (arith, none, many))
some_tens (suc v) place many some = omega arith

-- a nine becomes a zero, and the digits before it are still to be increased
pub carry_more :
    (all : List ℕ) (place n : ℕ)
    → Carries all place n → 0 < place → get_or all place 0 ≡ 57 → Carries (set all place 48) (place - 1) n
carry_more all place n c some nine =
    let m = c.left in
    let inside = c.inside in
    let ends = ends_at all place n c in
    let digit = ends.digit in
    let size = ends.size in
    let many : length (digits_of 10 (m / 10)) ≡ place = sym (length-map (digits_of 10 (m / 10)) digit_character) ∙ size in
    let tens : 0 < m / 10 = some_tens (m / 10) place many some in
    let back : place - 1 + 1 ≡ place = omega arith in
    let tens_next : (m + 1) / 10 ≡ m / 10 + 1 = omega arith in
    let zero_next : 48 + (m + 1) % 10 ≡ 48 = omega arith in
    let next : decimal_text (m + 1) ≡ decimal_text (m / 10 + 1) ++ 48 ∷ [] =
    decimal_last (m + 1)
    ∙ ap (λ d. map digit_character (digits_of 10 ((m + 1) / 10)) ++ d ∷ []) zero_next
    ∙ ap (λ v. map digit_character (digits_of 10 v) ++ 48 ∷ []) tens_next
    ∙ ap (λ l. l ++ 48 ∷ []) (sym (decimal_all (m / 10 + 1) (omega arith))) in
    record {
      left = m / 10;
      inside = omega (arith, length-set all place 48);
      digits = ap (λ k. take k (set all place 48)) back
          ∙ take-set all place 48
          ∙ ends.before
          ∙ sym (decimal_all (m / 10) tens);
      rest = ap (λ k. decimal_text (m / 10 + 1) ++ drop k (set all place 48)) back
          ∙ ap (λ l. decimal_text (m / 10 + 1) ++ l) (drop-set all place 48 (omega arith))
          ∙ sym (append_assoc (decimal_text (m / 10 + 1)) (48 ∷ []) (drop (place + 1) all))
          ∙ ap (λ l. l ++ drop (place + 1) all) (sym next)
          ∙ c.rest;
    }

-- a digit other than nine is increased by 1, and the carry ends
pub carry_end :
    (all : List ℕ) (place n digit : ℕ)
    → Carries all place n → digit ≡ get_or all place 0 → digit < 57
    → set all place (digit + 1) ≡ with_space (decimal_text (n + 1))
carry_end all place n digit c is below =
    let m = c.left in
    let inside = c.inside in
    let ends = ends_at all place n c in
    let was = ends.digit in
    let tens : m / 10 ≡ (m + 1) / 10 = omega arith in
    let last_is : digit + 1 ≡ 48 + (m + 1) % 10 = omega arith in
    sym (take-append-drop (place + 1) (set all place (digit + 1)))
    ∙ ap (λ l. l ++ drop (place + 1) (set all place (digit + 1))) (take_more_set all place (digit + 1) (omega arith) ∙ ap (λ l. l ++ (digit + 1) ∷ []) ends.before)
    ∙ ap (λ l. (front m ++ (digit + 1) ∷ []) ++ l) (drop-set-lt (place + 1) all place (digit + 1) (omega arith))
    ∙ ap (λ d. (front m ++ d ∷ []) ++ drop (place + 1) all) last_is
    ∙ ap (λ (q : ℕ). (map digit_character (digits_of 10 q) ++ (48 + (m + 1) % 10) ∷ []) ++ drop (place + 1) all) tens
    ∙ ap (λ l. l ++ drop (place + 1) all) (sym (decimal_last (m + 1)))
    ∙ c.rest

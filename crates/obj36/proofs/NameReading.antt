-- A name that was encoded is decoded as itself.
use Rattle.std.proofs.Common.{ℕ, zero, suc, ◌≡◌, ◌+◌, ◌-◌, ◌*◌, ◌/◌, ◌%◌, ◌^◌, ◌<◌, ◌≤◌, Bool, true, false, ◌&&◌, ◌||◌, leb, List, [], ◌∷◌, ◌++◌, length, get_or, refl, sym, ap, ◌∙◌, subst, append_assoc, arith}
use Rattle.std.specs.Prelude.{min}
use Rattle.std.specs.List.{list_any, list_all}
use Rattle.std.proofs.lemmas.Bool.{and_parts, leb-true, cond-true, cond-false}
use Rattle.std.proofs.lemmas.Bool.Decides.{nat_tests}
use Rattle.std.proofs.lemmas.List.{length-append, get_or-append_right}
use Rattle.obj36_parts.specs.Names.{same, is_name, is_name_character, name_offset, name_size, name_quarter, name_word, name_words_from, name_words, all_name_words}
use Rattle.obj36_parts.specs.Halves.{quarter}
use Rattle.obj36_read.specs.Reading.{quarter_at, characters, name_at}
use Rattle.obj36_parts.proofs.SizeLaws.{same_is, length-name_words}

-- ---- what a name is

pub record IsGood (name : List ℕ) : Type 0 where
  pub fits : length name ≤ 32
  pub bytes : (i : ℕ) → get_or name i 0 < 256

small_character : (c : ℕ) → is_name_character c ≡ true → c < 256
small_character c e = grind (arith, nat_tests)

bytes_small : (name : List ℕ) → list_all is_name_character name ≡ true → (i : ℕ) → get_or name i 0 < 256
bytes_small [] e i = omega arith
bytes_small (c ∷ name) e zero = small_character c (and_parts (is_name_character c) (list_all is_name_character name) e).0
bytes_small (c ∷ name) e (suc i) = bytes_small name (and_parts (is_name_character c) (list_all is_name_character name) e).1 i

pub good_name : (name : List ℕ) → is_name name ≡ true → IsGood name
unfolding is_name
good_name name e =
    let b = and_parts (leb 1 (length name) && leb (length name) 32) (list_all is_name_character name) e in
    let a = and_parts (leb 1 (length name)) (leb (length name) 32) b.0 in
    record { fits = leb-true _ _ a.1; bytes = bytes_small name b.1 }

-- ---- parts of nine bits

small_unit : (name : List ℕ) → IsGood name → (i : ℕ) → name_quarter name i < 512
unfolding name_quarter
small_unit name g zero = omega (arith, g.fits)
small_unit name g (suc i) = omega (arith, g.bytes i)

first_part : (a b c d : ℕ) → a < 512 → b < 512 → c < 512 → d < 512 → quarter (a * 2 ^ 27 + b * 2 ^ 18 + c * 2 ^ 9 + d) 0 ≡ a
unfolding quarter
first_part a b c d p q r s = omega arith

second_part : (a b c d : ℕ) → a < 512 → b < 512 → c < 512 → d < 512 → quarter (a * 2 ^ 27 + b * 2 ^ 18 + c * 2 ^ 9 + d) 1 ≡ b
unfolding quarter
second_part a b c d p q r s = omega arith

third_part : (a b c d : ℕ) → a < 512 → b < 512 → c < 512 → d < 512 → quarter (a * 2 ^ 27 + b * 2 ^ 18 + c * 2 ^ 9 + d) 2 ≡ c
unfolding quarter
third_part a b c d p q r s = omega arith

fourth_part : (a b c d : ℕ) → a < 512 → b < 512 → c < 512 → d < 512 → quarter (a * 2 ^ 27 + b * 2 ^ 18 + c * 2 ^ 9 + d) 3 ≡ d
unfolding quarter
fourth_part a b c d p q r s = omega arith

part_is : (name : List ℕ) → IsGood name → (j r : ℕ) → r < 4 → quarter (name_word name j) r ≡ name_quarter name (4 * j + r)
unfolding name_word
part_is name g j zero lt =
    first_part (name_quarter name (4 * j)) (name_quarter name (4 * j + 1)) (name_quarter name (4 * j + 2)) (name_quarter name (4 * j + 3)) (small_unit name g (4 * j)) (small_unit name g (4 * j + 1)) (small_unit name g (4 * j + 2)) (small_unit name g (4 * j + 3))
    ∙ ap (name_quarter name) (let e : 4 * j ≡ 4 * j + 0 = omega arith in e)
part_is name g j (suc zero) lt = second_part (name_quarter name (4 * j)) (name_quarter name (4 * j + 1)) (name_quarter name (4 * j + 2)) (name_quarter name (4 * j + 3)) (small_unit name g (4 * j)) (small_unit name g (4 * j + 1)) (small_unit name g (4 * j + 2)) (small_unit name g (4 * j + 3))
part_is name g j (suc (suc zero)) lt = third_part (name_quarter name (4 * j)) (name_quarter name (4 * j + 1)) (name_quarter name (4 * j + 2)) (name_quarter name (4 * j + 3)) (small_unit name g (4 * j)) (small_unit name g (4 * j + 1)) (small_unit name g (4 * j + 2)) (small_unit name g (4 * j + 3))
part_is name g j (suc (suc (suc zero))) lt = fourth_part (name_quarter name (4 * j)) (name_quarter name (4 * j + 1)) (name_quarter name (4 * j + 2)) (name_quarter name (4 * j + 3)) (small_unit name g (4 * j)) (small_unit name g (4 * j + 1)) (small_unit name g (4 * j + 2)) (small_unit name g (4 * j + 3))
part_is name g j (suc (suc (suc (suc r)))) lt = absurd (omega arith)

-- ---- the parts of a name that was encoded

word_from : (name : List ℕ) (j count k : ℕ) (rest : List ℕ) → k < count → get_or (name_words_from name j count ++ rest) k 0 ≡ name_word name (j + k)
unfolding name_words_from
word_from name j zero k rest lt = absurd (omega arith)
word_from name j (suc count) zero rest lt = ap (name_word name) (let e : j ≡ j + 0 = omega arith in e)
word_from name j (suc count) (suc k) rest lt =
    word_from name (suc j) count k rest (omega arith) ∙ ap (name_word name) (let e : suc j + k ≡ j + suc k = omega arith in e)

pub record IsSpelled (words : List ℕ) (at : ℕ) (name : List ℕ) : Type 0 where
  pub front : List ℕ
  pub rest : List ℕ
  pub whole : words ≡ front ++ (name_words name ++ rest)
  pub place : length front ≡ at

spelled_word : (words : List ℕ) (at : ℕ) (name : List ℕ) → IsSpelled words at name → (k : ℕ) → k < name_size name → get_or words (at + k) 0 ≡ name_word name k
unfolding name_words
spelled_word words at name s k lt =
    ap (λ (ws : List ℕ). get_or ws (at + k) 0) s.whole
    ∙ get_or-append_right s.front (name_words name ++ s.rest) at (at + k) 0 s.place (omega arith)
    ∙ ap (λ n. get_or (name_words name ++ s.rest) n 0) (let e : at + k - at ≡ k = omega arith in e)
    ∙ word_from name 0 (name_size name) k s.rest lt
    ∙ ap (name_word name) (let e : 0 + k ≡ k = omega arith in e)

spelled_unit : (words : List ℕ) (at : ℕ) (name : List ℕ) → IsGood name → IsSpelled words at name → (i : ℕ) → i ≤ length name → quarter_at words at i ≡ name_quarter name i
unfolding quarter_at name_size
spelled_unit words at name g s i le =
    ap (λ w. quarter w (i % 4)) (spelled_word words at name s (i / 4) (omega arith))
    ∙ part_is name g (i / 4) (i % 4) (omega arith)
    ∙ ap (name_quarter name) (let e : 4 * (i / 4) + i % 4 ≡ i = omega arith in e)

unit_behind : (name : List ℕ) (i : ℕ) → name_quarter name (suc i) ≡ get_or name i 0
unfolding name_quarter
unit_behind name i = refl

unit_first : (name : List ℕ) → name_quarter name 0 ≡ length name
unfolding name_quarter
unit_first name = refl

get_behind : (front rest : List ℕ) (x : ℕ) → get_or (front ++ x ∷ rest) (length front) 0 ≡ x
get_behind [] rest x = refl
get_behind (y ∷ front) rest x = get_behind front rest x

characters_are : (words : List ℕ) (at : ℕ) (name : List ℕ) → IsGood name → IsSpelled words at name → (front rest : List ℕ) (i : ℕ) → name ≡ front ++ rest → i ≡ suc (length front) → characters words at i (length rest) ≡ rest
unfolding characters
characters_are words at name g s front [] i e p = refl
characters_are words at name g s front (x ∷ rest) i e p =
    let here : get_or name (length front) 0 ≡ x = ap (λ (n : List ℕ). get_or n (length front) 0) e ∙ get_behind front rest x in
    let small : x < 256 = omega (arith, g.bytes (length front)) in
    let inside : suc (length front) ≤ length name = omega (arith, ap length e, length-append front (x ∷ rest)) in
    let unit : quarter_at words at i ≡ x = ap (quarter_at words at) p ∙ spelled_unit words at name g s (suc (length front)) inside ∙ unit_behind name (length front) ∙ here in
    let cut : quarter_at words at i % 256 ≡ x = omega arith in
    let grouped : name ≡ (front ++ x ∷ []) ++ rest = e ∙ sym (append_assoc front (x ∷ []) rest) in
    let next : i + 1 ≡ suc (length (front ++ x ∷ [])) = omega (arith, length-append front (x ∷ [])) in
    ap (λ n. n ∷ characters words at (i + 1) (length rest)) cut ∙ ap (λ (cs : List ℕ). x ∷ cs) (characters_are words at name g s (front ++ x ∷ []) rest (i + 1) grouped next)

pub name_read : (words : List ℕ) (at : ℕ) (name : List ℕ) → IsGood name → IsSpelled words at name → name_at words at ≡ name
unfolding name_at
name_read words at name g s =
    let count : min (quarter_at words at 0) 32 ≡ length name = omega (arith, g.fits, spelled_unit words at name g s 0 (omega arith), unit_first name) in
    ap (characters words at 1) count ∙ characters_are words at name g s [] name 1 refl refl

-- ---- among the names of a table

pub record IsRead (words : List ℕ) (place limit : ℕ) (name : List ℕ) : Type 0 where
  pub name_is : name_at words place ≡ name
  pub within : place < limit

among_by : (words : List ℕ) (name first : List ℕ) (others : List (List ℕ)) (at limit : ℕ) (b : Bool) → same name first ≡ b
    → (b ≡ true → IsRead words at limit name) → (b ≡ false → IsRead words (name_offset name others (at + name_size first)) limit name)
    → IsRead words (name_offset name (first ∷ others) at) limit name
unfolding name_offset
among_by words name first others at limit true e found missed =
    let P : ℕ → Type 0 = λ n. IsRead words n limit name in
    subst P (sym (cond-true (same name first) at (name_offset name others (at + name_size first)) e)) (found refl)
among_by words name first others at limit false e found missed =
    let P : ℕ → Type 0 = λ n. IsRead words n limit name in
    subst P (sym (cond-false (same name first) at (name_offset name others (at + name_size first)) e)) (missed refl)

positive_length : (name : List ℕ) → 0 < name_size name
unfolding name_size
positive_length name = omega arith

any_rest : (a b : Bool) → (a || b) ≡ true → a ≡ false → b ≡ true
any_rest true b e f = absurd cc
any_rest false b e f = e

pub names_read : (names : List (List ℕ)) (words front rest : List ℕ) (at limit : ℕ) (name : List ℕ) → words ≡ front ++ (all_name_words names ++ rest) → length front ≡ at
    → at + length (all_name_words names) ≤ limit → list_any (same name) names ≡ true → IsGood name → IsRead words (name_offset name names at) limit name
unfolding all_name_words
names_read [] words front rest at limit name e p small among g = absurd cc
names_read (first ∷ others) words front rest at limit name e p small among g =
    let grouped : words ≡ front ++ (name_words first ++ (all_name_words others ++ rest)) = e ∙ ap (λ (ws : List ℕ). front ++ ws) (append_assoc (name_words first) (all_name_words others) rest) in
    let long : length (name_words first ++ all_name_words others) ≡ name_size first + length (all_name_words others) = length-append (name_words first) (all_name_words others) ∙ ap (λ n. n + length (all_name_words others)) (length-name_words first) in
    among_by words name first others at limit (same name first) refl
    (λ found.
    let first_is : first ≡ name = sym (same_is name first found) in
    let Q : List ℕ → Type 0 = λ n. IsSpelled words at n in
    let spelled : IsSpelled words at name = subst Q first_is (record { front = front; rest = all_name_words others ++ rest; whole = grouped; place = p }) in
    record { name_is = name_read words at name g spelled; within = omega (arith, positive_length first) })
    (λ missed.
    let next : words ≡ (front ++ name_words first) ++ (all_name_words others ++ rest) = grouped ∙ sym (append_assoc front (name_words first) (all_name_words others ++ rest)) in
    let place : length (front ++ name_words first) ≡ at + name_size first = omega (arith, length-append front (name_words first), length-name_words first) in
    names_read others words (front ++ name_words first) rest (at + name_size first) limit name next place (omega arith) (any_rest (same name first) (list_any (same name) others) among missed) g)

-- The `at` lines of a bare image, read one after the other.
use Rattle.std.proofs.Common.{◌≡◌, ℕ, zero, suc, ◌+◌, ◌<◌, ◌≤◌, Bool, true, false, cond, ◌&&◌, List, [], ◌∷◌, ◌++◌, length, Option, Some, None, Result, Ok, Err, refl, sym, ap, ◌∙◌, arith}
use Rattle.std.specs.Prelude.{nat_le, nat_lt, IfSome, codes}
use Rattle.std.specs.List.{list_all, range_with_len}
use Rattle.std.specs.Result.{result_err}
use Rattle.std.proofs.lemmas.List.Folds.{list_all-append}
use Rattle.std.proofs.lemmas.Bool.{le-leb, leb-true}
use Rattle.std.proofs.lemmas.Bool.Decides.{nat_tests}
use Rattle.m36_image.specs.declared.refusal.ImageCode.{ImageCode}
use Rattle.m36_image.specs.declared.refusal.ImageCode.TheVariants.{I3}
use Rattle.m36_image.specs.PlacedWords.{PlacedWords}
use Rattle.m36_text.specs.Texts.{is_text}
use Rattle.m36_text.specs.Lines.{words_of, first_present}
use Rattle.m36_text.specs.Numbers.{octal_in}
use Rattle.m36_image.specs.BareImage.{at_read, at_words, at_line, at_line_code, at_codes, addresses}
use Rattle.m36_image.specs.Several.{with_number, numbers_by, numbers_up_to}
use Rattle.m36_image.specs.LineByLine.{end_of_at_line}

-- Reading `at` lines while remembering only the address after the last word.
abbrev pub end_or : ℕ → Result ℕ ImageCode → ℕ
end_or next (Ok end) = end
end_or next (Err code) = next

abbrev pub fault_or : ℕ → Result ℕ ImageCode → Option (ℕ × ImageCode) → Option (ℕ × ImageCode)
fault_or n (Ok end) later = later
fault_or n (Err code) later = Some (n, code)

unfoldable pub fault_in_turn : ℕ → ℕ → ℕ → List (Option (List ℕ)) → Option (ℕ × ImageCode)
fault_in_turn size n next [] = None
fault_in_turn size n next (line ∷ lines) =
    fault_or n (end_of_at_line size next (at_line line)) (fault_in_turn size (n + 1) (end_or next (end_of_at_line size next (at_line line))) lines)

-- A line that has its form has at least one word.
abbrev pub HasWord : Option (List ℕ) → Type 0
HasWord o = IfSome o (λ words. 0 < length words)

with_word_some : (o : Option ℕ) (p : Option (List ℕ)) → HasWord (with_number o p)
with_word_some None p = tt
with_word_some (Some w) None = tt
with_word_some (Some w) (Some ws) = omega arith

chosen_some : (b : Bool) (o : Option (List ℕ)) → HasWord o → HasWord (cond b o None)
chosen_some true o h = h
chosen_some false o h = tt

one_to_eight_some : (texts : List (List ℕ)) → HasWord (numbers_up_to 8 (octal_in 12) texts)
unfolding numbers_up_to
one_to_eight_some [] = tt
one_to_eight_some (text ∷ texts) =
    chosen_some (nat_lt (length texts) 8) (numbers_by (octal_in 12) (text ∷ texts)) (with_word_some (octal_in 12 text) (numbers_by (octal_in 12) texts))

abbrev pub HasPlace : Option PlacedWords → Type 0
HasPlace o = IfSome o (λ p. 0 < length p.words)

at_read_some : (o : Option ℕ) (p : Option (List ℕ)) → HasWord p → HasPlace (at_read o p)
at_read_some None p h = tt
at_read_some (Some a) None h = tt
at_read_some (Some a) (Some ws) h = h

named_some : (b : Bool) (o : Option PlacedWords) → HasPlace o → HasPlace (cond b o None)
named_some true o h = h
named_some false o h = tt

at_words_some : (words : List (List ℕ)) → HasPlace (at_words words)
at_words_some [] = tt
at_words_some (name ∷ []) = tt
at_words_some (name ∷ address ∷ texts) =
    named_some (is_text (codes "at") name) (at_read (octal_in 8 address) (numbers_up_to 8 (octal_in 12) texts)) (at_read_some (octal_in 8 address) (numbers_up_to 8 (octal_in 12) texts) (one_to_eight_some texts))

at_line_some : (line : Option (List ℕ)) → HasPlace (at_line line)
at_line_some None = tt
at_line_some (Some line) = at_words_some (words_of line)

-- the addresses of n words are below x exactly if their end is at most x
one_below : (first x : ℕ) → nat_lt first x && true ≡ nat_le (first + 1) x
one_below first x = grind (arith, nat_tests)

more_below : (first count x : ℕ) → nat_lt first x && nat_le (first + 1 + suc count) x ≡ nat_le (first + suc (suc count)) x
more_below first count x = grind (arith, nat_tests)

all_below : (first count x : ℕ) → list_all (λ a. nat_lt a x) (range_with_len first (suc count)) ≡ nat_le (first + suc count) x
all_below first zero x = one_below first x
all_below first (suc count) x = ap (λ b. nat_lt first x && b) (all_below (first + 1) count x) ∙ more_below first count x

some_below : (first count x : ℕ) → 0 < count → list_all (λ a. nat_lt a x) (range_with_len first count) ≡ nat_le (first + count) x
some_below first zero x some = absurd (omega arith)
some_below first (suc count) x some = all_below first count x

-- Of the earlier addresses only the address after the last is needed.
abbrev pub EndsAt : List ℕ → ℕ → Type 0
EndsAt earlier next = (x : ℕ) → list_all (λ a. nat_lt a x) earlier ≡ nat_le next x

both_below : (next first count x : ℕ) → next ≤ first → nat_le next x && nat_le (first + count) x ≡ nat_le (first + count) x
both_below next first count x above = grind (arith, nat_tests)

ends_on : (earlier : List ℕ) (next first count : ℕ) → 0 < count → next ≤ first → EndsAt earlier next → EndsAt (earlier ++ range_with_len first count) (first + count)
ends_on earlier next first count some above ends x =
    list_all-append (λ a. nat_lt a x) earlier (range_with_len first count) ∙ ap (λ b. b && list_all (λ a. nat_lt a x) (range_with_len first count)) (ends x) ∙ ap (λ b. nat_le next x && b) (some_below first count x some) ∙ both_below next first count x above

-- at the start there are none
pub ends_nowhere : EndsAt [] 0
ends_nowhere x = sym (le-leb 0 x (omega arith))

-- Reading line by line finds the first line with a code: one more line, if the later ones do.
abbrev pub Agrees : ℕ → ℕ → List (Option (List ℕ)) → Type 0
Agrees size n lines =
    (next : ℕ) (earlier : List ℕ) → EndsAt earlier next → fault_in_turn size n next lines ≡ first_present n (at_codes size earlier lines)

and_left : (a b : Bool) → true ≡ (a && b) → a ≡ true
and_left true b e = refl
and_left false b e = sym e

test_in_turn :
    (b : Bool) (size n next : ℕ) (earlier : List ℕ) (lines : List (Option (List ℕ))) (p : PlacedWords)
    → b ≡ (nat_le next p.first && nat_le (p.first + length p.words) size)
    → 0 < length p.words → EndsAt earlier next → Agrees size (n + 1) lines
    → fault_or n (cond b (Ok (p.first + length p.words)) (Err I3)) (fault_in_turn size (n + 1) (end_or next (cond b (Ok (p.first + length p.words)) (Err I3))) lines)
    ≡ first_present n (result_err (cond b (Ok (p.first + length p.words)) (Err I3)) ∷ at_codes size (earlier ++ range_with_len p.first (length p.words)) lines)
unfolding first_present
test_in_turn true size n next earlier lines p test some ends later =
    later (p.first + length p.words) (earlier ++ range_with_len p.first (length p.words)) (ends_on earlier next p.first (length p.words) some (leb-true next p.first (and_left (nat_le next p.first) (nat_le (p.first + length p.words) size) test)) ends)
test_in_turn false size n next earlier lines p test some ends later = refl

line_in_turn :
    (size n next : ℕ) (earlier : List ℕ) (lines : List (Option (List ℕ))) (o : Option PlacedWords)
    → HasPlace o → EndsAt earlier next → Agrees size (n + 1) lines
    → fault_or n (end_of_at_line size next o) (fault_in_turn size (n + 1) (end_or next (end_of_at_line size next o)) lines)
    ≡ first_present n (at_line_code size earlier o ∷ at_codes size (earlier ++ addresses o) lines)
unfolding first_present
line_in_turn size n next earlier lines None some ends later = refl
line_in_turn size n next earlier lines (Some p) some ends later =
    test_in_turn (nat_le next p.first && nat_le (p.first + length p.words) size) size n next earlier lines p refl some ends later ∙ ap (λ b. first_present n (result_err (cond (b && nat_le (p.first + length p.words) size) (Ok (p.first + length p.words)) (Err I3)) ∷ at_codes size (earlier ++ range_with_len p.first (length p.words)) lines)) (sym (ends p.first))

pub turn_is_fault : (size n : ℕ) (lines : List (Option (List ℕ))) → Agrees size n lines
unfolding fault_in_turn at_codes first_present
turn_is_fault size n [] next earlier ends = refl
turn_is_fault size n (line ∷ lines) next earlier ends =
    line_in_turn size n next earlier lines (at_line line) (at_line_some line) ends (turn_is_fault size (n + 1) lines)

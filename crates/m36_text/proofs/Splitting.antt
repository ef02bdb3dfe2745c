-- Texts split into lines, and lines into words.
use Rattle.std.proofs.Common.{◌≡◌, ℕ, ◌+◌, ◌-◌, ◌<◌, ◌≤◌, ◌==◌, Bool, true, false, cond, List, [], ◌∷◌, length, take, drop, Some, None, refl, sym, ap, ◌∙◌, arith, length-drop}
use Rattle.std.specs.List.{slice_split, position, position_or_len}
use Rattle.std.proofs.lemmas.Bool.{ltb-true, ltb-false}
use Rattle.std.proofs.lemmas.Option.{cond_some}
use Rattle.std.proofs.lemmas.List.Splits.{slice_split_first, slice_split_none, length-slice_split}
use Rattle.std.proofs.lemmas.List.Sums.{fails_before_first}
use Rattle.std.proofs.Math.Seq.{take-length}
use Rattle.std.proofs.Math.Dec.{ltb}
use Rattle.m36_text.specs.Lines.{unended_line, lines_of_parts, lines_of, open_last_line, open_lines_of_parts, open_lines_of, words_of, HasMore}

-- a slice up to the end is what `drop` leaves
pub rest_whole : (xs : List ℕ) (i : ℕ) → take (length xs - i) (drop i xs) ≡ drop i xs
rest_whole xs i = ap (λ n. take n (drop i xs)) (sym (length-drop i xs)) ∙ take-length (drop i xs)

pub cond_none : {A : Type 0} (b : Bool) (x : A) → cond b (Some x) None ≡ None → b ≡ false
cond_none true x h = cc
cond_none false x h = refl

-- a text is split at the first byte that passes
pub split_there :
    (p : ℕ → Bool) (xs : List ℕ) (i : ℕ)
    → position p xs ≡ Some i
    → slice_split p xs ≡ take i xs ∷ slice_split p (take (length xs - (i + 1)) (drop (i + 1) xs))
split_there p xs i found =
    let at = cond_some (ltb (position_or_len p xs) (length xs)) (position_or_len p xs) i found in
    slice_split_first p xs 0 (ltb-true _ _ at.0) ∙ ap (λ k. take k xs ∷ slice_split p (drop (k + 1) xs)) at.1 ∙ ap (λ r. take i xs ∷ slice_split p r) (sym (rest_whole xs (i + 1)))

-- a text in which no byte passes is one part
pub split_nowhere : (p : ℕ → Bool) (xs : List ℕ) → position p xs ≡ None → slice_split p xs ≡ xs ∷ []
split_nowhere p xs none =
    let past : length xs ≤ position_or_len p xs = ltb-false _ _ (cond_none (ltb (position_or_len p xs) (length xs)) (position_or_len p xs) none) in
    slice_split_none p xs (λ k d below. fails_before_first p xs k d (omega arith))

pub ruleset splitting = (split_there, split_nowhere)

-- there is at least one part
pub ended_line : (line : List ℕ) (parts : List (List ℕ)) → 0 < length parts → lines_of_parts (line ∷ parts) ≡ Some line ∷ lines_of_parts parts
ended_line line [] some = absurd (omega arith)
ended_line line (next ∷ parts) some = refl

-- a text that begins with a line
pub lines_first :
    (text line rest : List ℕ)
    → slice_split (λ b. b == 10) text ≡ line ∷ slice_split (λ b. b == 10) rest
    → lines_of text ≡ Some line ∷ lines_of rest
unfolding lines_of
lines_first text line rest e =
    ap lines_of_parts e ∙ ended_line line (slice_split (λ b. b == 10) rest) (omega (arith, length-slice_split (λ b. b == 10) rest))

-- a text without a line feed
pub lines_cut : (text : List ℕ) → slice_split (λ b. b == 10) text ≡ text ∷ [] → lines_of text ≡ unended_line text
unfolding lines_of
lines_cut text e = ap lines_of_parts e

pub ruleset lining = (lines_first, lines_cut)

pub open_line : (line : List ℕ) (parts : List (List ℕ)) → 0 < length parts → open_lines_of_parts (line ∷ parts) ≡ line ∷ open_lines_of_parts parts
open_line line [] some = absurd (omega arith)
open_line line (next ∷ parts) some = refl

-- a text that begins with a line, if the last line may lack its line feed
pub open_lines_first :
    (text line rest : List ℕ)
    → slice_split (λ b. b == 10) text ≡ line ∷ slice_split (λ b. b == 10) rest
    → open_lines_of text ≡ line ∷ open_lines_of rest
unfolding open_lines_of
open_lines_first text line rest e =
    ap open_lines_of_parts e ∙ open_line line (slice_split (λ b. b == 10) rest) (omega (arith, length-slice_split (λ b. b == 10) rest))

-- an empty text has no line
pub open_lines_none : (text : List ℕ) → length text ≡ 0 → open_lines_of text ≡ []
unfolding open_lines_of
open_lines_none [] e = refl
open_lines_none (b ∷ text) e = absurd (omega (arith, e))

open_rest_some : (text : List ℕ) → 0 < length text → open_last_line text ≡ text ∷ []
open_rest_some [] some = absurd (omega arith)
open_rest_some (b ∷ rest) some = refl

-- a text without a line feed is one line
pub open_lines_last :
    (text rest : List ℕ)
    → slice_split (λ b. b == 10) text ≡ text ∷ [] → 0 < length text → length rest ≡ 0
    → open_lines_of text ≡ text ∷ open_lines_of rest
unfolding open_lines_of
open_lines_last text rest e some none =
    ap open_lines_of_parts e ∙ open_rest_some text some ∙ ap (λ l. text ∷ l) (sym (open_lines_none rest none))

pub ruleset open_lining = (open_lines_first, open_lines_none, open_lines_last)

parts_some : (parts : List (List ℕ)) (line word : List ℕ) (words : List (List ℕ)) → 0 < length parts → words ≡ word ∷ parts → HasMore words
parts_some [] line word words some e = absurd (omega arith)
parts_some (next ∷ parts) line word words some e = record { first = word; second = next; others = parts; are = e }

-- after a space there is a word, perhaps an empty one
pub has_more : (line word rest : List ℕ) → words_of line ≡ word ∷ words_of rest → HasMore (words_of line)
unfolding words_of
has_more line word rest e = parts_some (words_of rest) line word (words_of line) (omega (arith, length-slice_split (λ b. b == 32) rest)) e

-- a line has at least one word
pub words_some : (line : List ℕ) → 0 < length (words_of line)
unfolding words_of
words_some line = omega (arith, length-slice_split (λ b. b == 32) line)

-- an empty text has no line
pub lines_of_none : (text : List ℕ) → length text ≡ 0 → lines_of text ≡ []
unfolding lines_of
lines_of_none [] e = refl
lines_of_none (b ∷ text) e = absurd (omega (arith, e))

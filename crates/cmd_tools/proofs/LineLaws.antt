-- The lines of a text: the first one, and all of them joined.
use Rattle.std.proofs.Common.{◌≡◌, ℕ, zero, suc, ◌+◌, ◌<◌, ◌≤◌, ◌==◌, Bool, true, false, cond, List, [], ◌∷◌, length, take, drop, get_or, Some, None, refl, sym, ap, subst, ◌∙◌, arith}
use Rattle.std.specs.List.{position, position_or_len, onto_first}
use Rattle.std.proofs.Math.Dec.{ltb}
use Rattle.std.proofs.lemmas.Bool.{ltb-false}
use Rattle.std.proofs.lemmas.List.{take_all, drop_all}
use Rattle.std.proofs.lemmas.List.Quantifiers.{position-Some}
use Rattle.std.proofs.lemmas.List.Sums.{fails_before_first}
use Rattle.m36_outside.specs.Passing.{joined}
use Rattle.m36_text.proofs.Splitting.{cond_none}
use Rattle.cmd_tools.specs.LinesIn.{lines_in}

-- ---- the first line

-- The first line ends at the first line feed.
cut_there :
    (xs : List ℕ) (i : ℕ)
    → i < length xs → (get_or xs i 0 == 10) ≡ true → ((k : ℕ) → k < i → (get_or xs k 0 == 10) ≡ false)
    → lines_in xs ≡ take (suc i) xs ∷ lines_in (drop (suc i) xs)
unfolding lines_in
cut_there [] i within here before = absurd (omega arith)
cut_there (x ∷ xs) zero within here before = ap (λ t. cond t ((x ∷ []) ∷ lines_in xs) (onto_first x (lines_in xs))) here
cut_there (x ∷ xs) (suc i) within here before =
    ap (λ t. cond t ((x ∷ []) ∷ lines_in xs) (onto_first x (lines_in xs))) (before 0 (omega arith))
    ∙ ap (onto_first x) (cut_there xs i (omega arith) here (λ k below. before (suc k) (omega arith)))

-- Without a line feed it is the whole text.
cut_nowhere :
    (xs : List ℕ) → 0 < length xs → ((k : ℕ) → k < length xs → (get_or xs k 0 == 10) ≡ false) → lines_in xs ≡ xs ∷ []
unfolding lines_in
cut_nowhere [] some before = absurd (omega arith)
cut_nowhere (x ∷ []) some before = ap (λ t. cond t ((x ∷ []) ∷ []) (onto_first x [])) (before 0 (omega arith))
cut_nowhere (x ∷ y ∷ xs) some before =
    ap (λ t. cond t ((x ∷ []) ∷ lines_in (y ∷ xs)) (onto_first x (lines_in (y ∷ xs)))) (before 0 (omega arith))
    ∙ ap (onto_first x) (cut_nowhere (y ∷ xs) (omega arith) (λ k below. before (suc k) (omega arith)))

abbrev is_line_feed : ℕ → Bool
is_line_feed b = b == 10

pub first_there :
    (text : List ℕ) (i : ℕ)
    → position (λ b. b == 10) text ≡ Some i → lines_in text ≡ take (i + 1) text ∷ lines_in (drop (i + 1) text)
first_there text i found =
    let at = position-Some is_line_feed text i 0 found in
    let one : suc i ≡ i + 1 = omega arith in
    subst (λ n. lines_in text ≡ take n text ∷ lines_in (drop n text)) one (cut_there text i at.0 at.1 at.2)

pub first_all :
    (text : List ℕ)
    → position (λ b. b == 10) text ≡ None → 0 < length text
    → lines_in text ≡ take (length text) text ∷ lines_in (drop (length text) text)
unfolding lines_in
first_all text none some =
    let past : length text ≤ position_or_len is_line_feed text = ltb-false _ _ (cond_none (ltb (position_or_len is_line_feed text) (length text)) (position_or_len is_line_feed text) none) in
    cut_nowhere text some (λ k below. fails_before_first is_line_feed text k 0 (omega (arith, past, below)))
    ∙ ap (λ l. l ∷ []) (sym (take_all (length text) text (omega arith)))
    ∙ ap (λ r. take (length text) text ∷ lines_in r) (sym (drop_all (length text) text (omega arith)))

pub ruleset first_line = (first_there, first_all)

-- ---- joined

joined_first : (b : ℕ) (lines : List (List ℕ)) → joined (onto_first b lines) ≡ b ∷ joined lines
joined_first b [] = refl
joined_first b (line ∷ lines) = refl

joined_by : (t : Bool) (b : ℕ) (lines : List (List ℕ)) → joined (cond t ((b ∷ []) ∷ lines) (onto_first b lines)) ≡ b ∷ joined lines
joined_by true b lines = refl
joined_by false b lines = joined_first b lines

-- The lines of a text, joined, are the text.
pub lines_joined : (text : List ℕ) → joined (lines_in text) ≡ text
unfolding lines_in
lines_joined [] = refl
lines_joined (b ∷ text) = joined_by (b == 10) b (lines_in text) ∙ ap (λ t. b ∷ t) (lines_joined text)

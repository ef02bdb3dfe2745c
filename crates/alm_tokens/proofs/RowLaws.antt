-- A text divided into lines, byte by byte.
use Rattle.std.proofs.Common.{◌≡◌, ℕ, ◌+◌, ◌<◌, ◌≤◌, ◌==◌, true, false, cond, List, [], ◌∷◌, length, drop, get_or, refl, arith, drop-cons, add-one, ◌++◌, sym, ap, ◌∙◌, append-nil}
use Rattle.std.proofs.lemmas.List.{length-append}
use Rattle.std.proofs.lemmas.Bool.Decides.{nat_tests}
use Rattle.alm_tokens.specs.declared.rows.Row.{Row}
use Rattle.std.proofs.Math.ListN.{drop_of_length-le}
use Rattle.alm_tokens.specs.Rows.{row_at, rows_from}

pub rows_feed :
    (number from at : ℕ) (text : List ℕ) (i : ℕ) → i < length text → (get_or text i 0 == 10) ≡ true
    → rows_from number from at (drop i text) ≡ row_at number from at ∷ rows_from (number + 1) (at + 1) (at + 1) (drop (i + 1) text)
unfolding rows_from
rows_feed number from at text i within e = rw (add-one i, drop-cons text i 0) (rw e refl)

pub rows_on :
    (number from at : ℕ) (text : List ℕ) (i : ℕ) → i < length text → (get_or text i 0 == 10) ≡ false
    → rows_from number from at (drop i text) ≡ rows_from number from (at + 1) (drop (i + 1) text)
unfolding rows_from
rows_on number from at text i within e = rw (add-one i, drop-cons text i 0) (rw e refl)

pub rows_last :
    (number from at : ℕ) (text : List ℕ) (i : ℕ) → length text ≤ i
    → rows_from number from at (drop i text) ≡ cond (from == at) [] (row_at number from at ∷ [])
unfolding rows_from
rows_last number from at text i past = rw (drop_of_length-le text past) refl

same : (m n : ℕ) → m ≡ n → (m == n) ≡ true
same m n e = grind (arith, nat_tests)

-- if no text follows the last line feed, all lines are found
pub rows_done :
    (rows whole : List Row) (number from at : ℕ) (text : List ℕ) (i : ℕ) → length text ≤ i → from ≡ at
    → rows ++ rows_from number from at (drop i text) ≡ whole → rows ≡ whole
rows_done rows whole number from at text i past e all =
    let none : rows_from number from at (drop i text) ≡ [] = rows_last number from at text i past ∙ ap (λ b. cond b [] (row_at number from at ∷ [])) (same from at e) in
    sym (append-nil rows) ∙ ap (λ more. rows ++ more) (sym none) ∙ all

-- a list with one more at its end
pub row_more : (rows new : List Row) (row : Row) → new ≡ rows ++ row ∷ [] → length new ≡ length rows + 1
row_more rows new row e = ap length e ∙ length-append rows (row ∷ [])

pub ruleset row_steps = (rows_feed, rows_on, rows_last)

-- Texts divided at the first byte that passes a test.
use Rattle.std.proofs.Common.{ℕ, ◌≡◌, ◌+◌, Bool, true, false, List, [], ◌∷◌, ◌++◌, length, take, drop, refl, ap, ◌∙◌, arith}
use Rattle.std.specs.List.{list_any, position_or_len, before_first, after_first}
use Rattle.std.proofs.lemmas.Bool.{or_parts, or_from, or_left, or_right}
use Rattle.std.proofs.Math.Seq.{take-append_seam, drop-append_seam, drop-append-add}

-- whether a text is empty or begins with a byte that passes
abbrev pub begins : (ℕ → Bool) → List ℕ → Bool
begins p [] = true
begins p (y ∷ ys) = p y

-- if no byte of a text passes, and the text after it begins with one that does, the first is just
-- after the text
pub first_behind : (p : ℕ → Bool) (xs ys : List ℕ) → list_any p xs ≡ false → begins p ys ≡ true → position_or_len p (xs ++ ys) ≡ length xs
first_behind p [] [] none here = refl
first_behind p [] (y ∷ ys) none here = rw here refl
first_behind p (x ∷ xs) ys none here =
    let parts = or_parts (p x) (list_any p xs) none in
    let rest = first_behind p xs ys parts.1 here in
    rw (parts.0) (omega arith)

-- so the text is what precedes that byte, and the rest begins with it
pub before : (p : ℕ → Bool) (xs ys : List ℕ) → list_any p xs ≡ false → begins p ys ≡ true → before_first p (xs ++ ys) ≡ xs
before p xs ys none here = ap (λ n. take n (xs ++ ys)) (first_behind p xs ys none here) ∙ take-append_seam xs ys

pub from_on : (p : ℕ → Bool) (xs ys : List ℕ) → list_any p xs ≡ false → begins p ys ≡ true → drop (position_or_len p (xs ++ ys)) (xs ++ ys) ≡ ys
from_on p xs ys none here = ap (λ n. drop n (xs ++ ys)) (first_behind p xs ys none here) ∙ drop-append_seam xs ys

pub after : (p : ℕ → Bool) (xs : List ℕ) (y : ℕ) (ys : List ℕ) → list_any p xs ≡ false → p y ≡ true → after_first p (xs ++ y ∷ ys) ≡ ys
after p xs y ys none here = ap (λ n. drop (n + 1) (xs ++ y ∷ ys)) (first_behind p xs (y ∷ ys) none here) ∙ drop-append-add xs (y ∷ ys) 1

-- a byte that passes is found, and none in two texts that have none
pub any_at : (p : ℕ → Bool) (xs : List ℕ) (y : ℕ) (ys : List ℕ) → p y ≡ true → list_any p (xs ++ y ∷ ys) ≡ true
any_at p [] y ys here = or_left (p y) (list_any p ys) here
any_at p (x ∷ xs) y ys here = or_right (p x) (list_any p (xs ++ y ∷ ys)) (any_at p xs y ys here)

pub none_in_both : (p : ℕ → Bool) (xs ys : List ℕ) → list_any p xs ≡ false → list_any p ys ≡ false → list_any p (xs ++ ys) ≡ false
none_in_both p [] ys first second = second
none_in_both p (x ∷ xs) ys first second =
    let parts = or_parts (p x) (list_any p xs) first in
    or_from (p x) (list_any p (xs ++ ys)) parts.0 (none_in_both p xs ys parts.1 second)

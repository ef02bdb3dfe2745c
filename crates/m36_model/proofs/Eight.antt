-- A list of eight elements consists of its eight elements.
use Rattle.std.proofs.Common.{ℕ, suc, ◌≡◌, ◌<◌, ◌≤◌, List, [], ◌∷◌, length, get_or, drop, ap, sym, ◌∙◌, subst, arith}
use Rattle.std.proofs.Math.Seq.{drop-cons}
use Rattle.std.proofs.Math.ListN.{drop_of_length-le}

-- the rest of a list from an element on
next : {A : Type 0} (xs rest : List A) (d : A) (i : ℕ) → i < length xs → drop (suc i) xs ≡ rest → drop i xs ≡ get_or xs i d ∷ rest
next xs rest d i h e = drop-cons xs i d h ∙ ap (λ r. get_or xs i d ∷ r) e

last : {A : Type 0} (xs : List A) → length xs ≡ 8 → drop 8 xs ≡ []
last xs h = let le : length xs ≤ 8 = omega arith in drop_of_length-le xs {i = 8} le

pub eight : {A : Type 0} (xs : List A) (d : A) → length xs ≡ 8
    → xs ≡ get_or xs 0 d ∷ (get_or xs 1 d ∷ (get_or xs 2 d ∷ (get_or xs 3 d ∷ (get_or xs 4 d ∷ (get_or xs 5 d ∷ (get_or xs 6 d ∷ (get_or xs 7 d ∷ [])))))))
eight xs d h =
    let at0 : 0 < length xs = omega arith in
    let at1 : 1 < length xs = omega arith in
    let at2 : 2 < length xs = omega arith in
    let at3 : 3 < length xs = omega arith in
    let at4 : 4 < length xs = omega arith in
    let at5 : 5 < length xs = omega arith in
    let at6 : 6 < length xs = omega arith in
    let at7 : 7 < length xs = omega arith in
    next xs _ d 0 at0 (next xs _ d 1 at1 (next xs _ d 2 at2 (next xs _ d 3 at3 (next xs _ d 4 at4 (next xs _ d 5 at5 (next xs _ d 6 at6 (next xs _ d 7 at7 (last xs h))))))))

-- what holds of each list of eight elements holds of each list of length 8
pub by_eight : {A : Type 0} (P : List A → Type 0) (d : A) → ((p0 p1 p2 p3 p4 p5 p6 p7 : A) → P (p0 ∷ (p1 ∷ (p2 ∷ (p3 ∷ (p4 ∷ (p5 ∷ (p6 ∷ (p7 ∷ [])))))))))
    → (xs : List A) → length xs ≡ 8 → P xs
by_eight P d each xs h = subst P (sym (eight xs d h)) (each _ _ _ _ _ _ _ _)

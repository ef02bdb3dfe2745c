-- The words of a list after one of them was set.
use Rattle.std.proofs.Common.{◌≡◌, refl, ap, arith}
use Rattle.std.specs.Prelude.{ℕ, zero, suc, ◌≢◌, List, [], ◌∷◌, map, length, slice_get, slice_index, slice_set, Some, None}

pub get_set_past : (xs : List ℕ) (i v : ℕ) → slice_get xs i ≡ None → slice_set xs i v ≡ xs
get_set_past [] i v h = refl
get_set_past (x ∷ xs) zero v h = cc
get_set_past (x ∷ xs) (suc i) v h = ap (λ (l : List ℕ). x ∷ l) (get_set_past xs i v h)

pub index_of_get : (xs : List ℕ) (i x : ℕ) → slice_get xs i ≡ Some x → slice_index xs i ≡ x
index_of_get [] i x h = cc
index_of_get (y ∷ xs) zero x h = cc
index_of_get (y ∷ xs) (suc i) x h = index_of_get xs i x h

-- a list of any values: at another index than the one that was set, at this one, and beside a list
-- of the same length
pub set_other : {A : Type 0} (xs : List A) (i j : ℕ) (v : A) → j ≢ i → slice_get (slice_set xs i v) j ≡ slice_get xs j
set_other [] i j v h = refl
set_other (x ∷ xs) zero zero v h = absurd (h refl)
set_other (x ∷ xs) zero (suc j) v h = refl
set_other (x ∷ xs) (suc i) zero v h = refl
set_other (x ∷ xs) (suc i) (suc j) v h = set_other xs i j v (λ e. h (ap suc e))

pub set_same : {A : Type 0} (xs : List A) (i : ℕ) (v x : A) → slice_get xs i ≡ Some x → slice_get (slice_set xs i v) i ≡ Some v
set_same [] i v x h = cc
set_same (y ∷ xs) zero v x h = refl
set_same (y ∷ xs) (suc i) v x h = set_same xs i v x h

pub get_beside : {A B : Type 0} (xs : List A) (ys : List B) (i : ℕ) (x : A) → length ys ≡ length xs → slice_get xs i ≡ Some x → (y : B) × (slice_get ys i ≡ Some y)
get_beside [] ys i x e h = cc
get_beside (x ∷ xs) [] i v e h = absurd (omega arith)
get_beside (x ∷ xs) (y ∷ ys) zero v e h = (y, refl)
get_beside (x ∷ xs) (y ∷ ys) (suc i) v e h = get_beside xs ys i v (omega arith) h

-- an element of a list after a map
pub get_map : {A B : Type 0} (f : A → B) (xs : List A) (i : ℕ) (x : A) → slice_get xs i ≡ Some x → slice_get (map f xs) i ≡ Some (f x)
get_map f [] i x h = cc
get_map f (y ∷ xs) zero x h = let same : y ≡ x = cc in ap (λ z. Some (f z)) same
get_map f (y ∷ xs) (suc i) x h = get_map f xs i x h

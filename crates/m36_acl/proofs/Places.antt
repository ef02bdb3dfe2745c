-- The element at an index of a list.
use Rattle.std.proofs.Common.{ℕ, zero, suc, ◌≡◌, ◌<◌, List, [], ◌∷◌, length, Some, refl, arith}
use Rattle.std.specs.Prelude.{slice_get}

pub record At {X : Type 0} (xs : List X) (i : ℕ) : Type 0 where
  pub x : X
  pub stands : slice_get xs i ≡ Some x

pub at_place : {X : Type 0} (xs : List X) (i : ℕ) → i < length xs → At xs i
at_place [] i lt = absurd (omega (arith, lt))
at_place (x ∷ xs) zero lt = record { x = x; stands = refl }
at_place (x ∷ xs) (suc i) lt =
    let next = at_place xs i (omega (arith, lt)) in
    record { x = next.x; stands = next.stands }

-- Marks are set in order.
use Rattle.std.proofs.Common.{ℕ, List, [], ◌∷◌, ◌++◌, ◌≡◌, refl}
use Rattle.m36_model.specs.Place.{Mark, with_mark, with_marks}

pub marks_in_order : (core : List ℕ) (first second : List Mark) → with_marks core (first ++ second) ≡ with_marks (with_marks core first) second
unfolding with_marks
marks_in_order core [] second = refl
marks_in_order core (m ∷ first) second = marks_in_order (with_mark core m) first second

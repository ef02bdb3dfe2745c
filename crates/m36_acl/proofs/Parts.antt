-- The parts of a text between its points.
use Rattle.std.proofs.Common.{ℕ, ◌≡◌, ◌<◌, ◌==◌, List, [], ◌∷◌, length, None, refl, arith}
use Rattle.std.proofs.lemmas.List.Splits.{length-slice_split}
use Rattle.m36_acl.specs.Users.{parts_of, components_of_parts, components_of}

three_and_more : (person project tag : List ℕ) (more : List (List ℕ)) → 0 < length more
    → components_of_parts (person ∷ project ∷ tag ∷ more) ≡ None
three_and_more person project tag [] some = absurd (omega arith)
three_and_more person project tag (next ∷ more) some = refl

-- after a third point there is a fourth part
pub four_parts : (text person project tag rest : List ℕ) → parts_of text ≡ person ∷ project ∷ tag ∷ parts_of rest
    → components_of text ≡ None
unfolding components_of
four_parts text person project tag rest e =
    rw e (three_and_more person project tag (parts_of rest) (omega (arith, length-slice_split (λ c. c == 46) rest)))

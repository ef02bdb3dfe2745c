-- Fields that are joined are a line.
use Rattle.std.proofs.Common.{◌≡◌, ℕ, List, [], ◌∷◌, ◌++◌, append_assoc}
use Rattle.m36_list.specs.Print.{line}

pub two : (old a b : List ℕ) → (old ++ (a ++ 32 ∷ [])) ++ (b ++ 10 ∷ []) ≡ old ++ line (a ∷ b ∷ [])
unfolding line
two old a b = simp append_assoc

pub three : (old a b c : List ℕ) → ((old ++ (a ++ 32 ∷ [])) ++ (b ++ 32 ∷ [])) ++ (c ++ 10 ∷ []) ≡ old ++ line (a ∷ b ∷ c ∷ [])
unfolding line
three old a b c = simp append_assoc

pub four : (old a b c d : List ℕ) → (((old ++ (a ++ 32 ∷ [])) ++ (b ++ 32 ∷ [])) ++ (c ++ 32 ∷ [])) ++ (d ++ 10 ∷ []) ≡ old ++ line (a ∷ b ∷ c ∷ d ∷ [])
unfolding line
four old a b c d = simp append_assoc

pub five : (old a b c d e : List ℕ) → ((((old ++ (a ++ 32 ∷ [])) ++ (b ++ 32 ∷ [])) ++ (c ++ 32 ∷ [])) ++ (d ++ 32 ∷ [])) ++ (e ++ 10 ∷ []) ≡ old ++ line (a ∷ b ∷ c ∷ d ∷ e ∷ [])
unfolding line
five old a b c d e = simp append_assoc

-- a reference and the space after it
pub reference : (old a : List ℕ) → (old ++ a) ++ 32 ∷ [] ≡ old ++ (a ++ 32 ∷ [])
reference old a = append_assoc old a (32 ∷ [])

pub ruleset lines = (two, three, four, five)

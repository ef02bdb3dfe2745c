-- The first line that has a result, line by line.
use Rattle.std.proofs.Common.{ℕ, ◌≡◌, ◌+◌, List, [], ◌∷◌, ◌++◌, Option, Some, None}
use Rattle.m36_text.specs.Lines.{first_present}

-- for no line
pub nothing_told : {A : Type 0} (n : ℕ) (lines : List (Option A)) → lines ≡ [] → first_present n lines ≡ None
unfolding first_present
nothing_told n lines e = rw e

-- for the first line
pub told_here :
    {A : Type 0} (n : ℕ) (lines more : List (Option A)) (told : A)
    → lines ≡ Some told ∷ more → first_present n lines ≡ Some (n, told)
unfolding first_present
told_here n lines more told e = rw e

-- for a later line
pub told_later :
    {A : Type 0} (n : ℕ) (lines more : List (Option A))
    → lines ≡ None ∷ more → first_present n lines ≡ first_present (n + 1) more
unfolding first_present
told_later n lines more e = rw e

-- a result in the first lines is the first of all lines
pub told_earlier :
    {A : Type 0} (n : ℕ) (lines more : List (Option A)) (told : ℕ × A)
    → first_present n lines ≡ Some told → first_present n (lines ++ more) ≡ Some told
unfolding first_present
told_earlier n [] more told e = absurd (cc)
told_earlier n (Some here ∷ lines) more told e = e
told_earlier n (None ∷ lines) more told e = told_earlier (n + 1) lines more told e

pub ruleset telling = (nothing_told, told_here, told_later)

-- Several texts of a line, each of which is parsed as a number of one form.
use Rattle.std.specs.Prelude.{ℕ, nat_lt, List, [], ◌∷◌, length, Option, Some, None}
use Rattle.std.specs.Prelude.{if◌then◌else◌}

-- a number before others, if all of them could be read
abbrev pub with_number : Option ℕ → Option (List ℕ) → Option (List ℕ)
with_number (Some number) (Some numbers) = Some (number ∷ numbers)
with_number _ _ = None

-- the numbers, if each text has the form
abbrev pub numbers_by : (List ℕ → Option ℕ) → List (List ℕ) → Option (List ℕ)
numbers_by form [] = Some []
numbers_by form (text ∷ texts) = with_number (form text) (numbers_by form texts)

-- the numbers, if there are one to `most` texts and each has the form
unfoldable pub numbers_up_to : ℕ → (List ℕ → Option ℕ) → List (List ℕ) → Option (List ℕ)
numbers_up_to most form [] = None
numbers_up_to most form (text ∷ texts) =
    if nat_lt (length texts) most then numbers_by form (text ∷ texts) else None

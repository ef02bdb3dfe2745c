-- What is written to an output, if it is known.
use Rattle.std.specs.Prelude.{ℕ, ◌≡◌, List, ◌++◌, Option, Some, None}

-- what is written, if it is known, with these bytes appended
abbrev pub appended : List ℕ → Option (List ℕ) → Option (List ℕ)
appended bytes None = None
appended bytes (Some written) = Some (written ++ bytes)

-- What is written grew by these bytes. Whether it is known does not change.
abbrev pub Grew : Option (List ℕ) → Option (List ℕ) → List ℕ → Type 0
Grew old new bytes = new ≡ appended bytes old

-- What is written grew by a prefix of these bytes: none, some or all of them.
pub record GrewWithin (old new : Option (List ℕ)) (bytes : List ℕ) : Type 0 where
  pub part : List ℕ
  pub rest : List ℕ
  pub whole : bytes ≡ part ++ rest
  pub grew : Grew old new part

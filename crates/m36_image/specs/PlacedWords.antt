-- Words, and the core address of the first of them.
use Rattle.std.specs.Prelude.{ℕ, List}

-- the core address of the first word, and the words
pub record PlacedWords : Type 0 where
  pub first : ℕ
  pub words : List ℕ

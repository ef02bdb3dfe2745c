-- What a file gave while it was read: pieces in order, with an empty one for the end.
use Rattle.std.specs.Prelude.{ℕ, ◌≡◌, ◌<◌, List, [], ◌∷◌, ◌++◌, length}
use Rattle.m36_outside.specs.Passing.{joined}
use Rattle.m36_outside.specs.ReadAnswer.{file_limit}
use Rattle.m36_outside.specs.declared.folder.ReadAnswer.{ReadAnswer}
use Rattle.m36_outside.specs.declared.folder.ReadAnswer.TheVariants.{Read, Absent, TooLarge, Failed}
use Rattle.m36_outside.specs.declared.folder.ReadAnswer.TheVariants.{NoMemory}

-- The file gave pieces whose concatenation is `bytes`.
pub record Gives (old new : List (List ℕ)) (bytes : List ℕ) : Type 0 where
  pub pieces : List (List ℕ)
  pub come : joined pieces ≡ bytes
  pub gave : new ≡ old ++ pieces

-- The file gave pieces whose concatenation is `bytes`, and then the end.
pub record GivesAll (old new : List (List ℕ)) (bytes : List ℕ) : Type 0 where
  pub pieces : List (List ℕ)
  pub come : joined pieces ≡ bytes
  pub gave : new ≡ (old ++ pieces) ++ [] ∷ []

-- The file gave pieces that together exceed the limit of a file.
pub record GivesTooMuch (old new : List (List ℕ)) : Type 0 where
  pub pieces : List (List ℕ)
  pub more : file_limit < length (joined pieces)
  pub gave : new ≡ old ++ pieces

-- The file gave some pieces, perhaps none.
pub record GivesSome (old new : List (List ℕ)) : Type 0 where
  pub pieces : List (List ℕ)
  pub gave : new ≡ old ++ pieces

-- what the answer to a read implies for the pieces that the file gave
abbrev pub ReadGives : ReadAnswer → List (List ℕ) → List (List ℕ) → Type 0
ReadGives (Read bytes) old new = GivesAll old new bytes
ReadGives Absent old new = new ≡ old
ReadGives TooLarge old new = GivesTooMuch old new
ReadGives Failed old new = GivesSome old new
ReadGives NoMemory old new = GivesSome old new

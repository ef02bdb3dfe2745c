-- What passed through an object, in order: the pieces that a sink took or that an input gave.
use Rattle.std.specs.Prelude.{ℕ, ◌≡◌, List, [], ◌∷◌, ◌++◌, take, Option}
-- the concatenation of pieces
pub use Rattle.std.specs.List.{concat as joined}
use Rattle.m36_outside.specs.Written.{Grew}
use Rattle.m36_outside.specs.declared.lines.Piece.{Piece}
use Rattle.m36_outside.specs.declared.lines.Piece.TheVariants as piece
use Rattle.m36_outside.specs.declared.sink.Put.{Put}
use Rattle.m36_outside.specs.declared.sink.Put.TheVariants as put

-- A sink took a prefix of a piece, and what is written grew by it.
pub record TakesPart (written written' : Option (List ℕ)) (old new : List (List ℕ))
    (whole : List ℕ) : Type 0 where
  pub part : List ℕ
  pub rest : List ℕ
  pub is : whole ≡ part ++ rest
  pub took : new ≡ old ++ part ∷ []
  pub grew : Grew written written' part

-- A put takes one piece: the whole of it, or a prefix if the put failed.
abbrev pub PutTakes :
    Put → Option (List ℕ) → Option (List ℕ) → List (List ℕ) → List (List ℕ) → List ℕ → Type 0
PutTakes put.Done written written' old new whole = new ≡ old ++ whole ∷ []
PutTakes put.Failed written written' old new whole = TakesPart written written' old new whole

-- A call for a piece gives one if it does not fail. An empty piece is the end.
abbrev pub PieceGives : Piece → List (List ℕ) → List (List ℕ) → List ℕ → Type 0
PieceGives (piece.Got count) old new into = new ≡ old ++ take count into ∷ []
PieceGives piece.End old new into = new ≡ old ++ [] ∷ []
PieceGives piece.Failed old new into = new ≡ old

-- Of the pieces `due` a sink took the first ones, each as one piece, and then a prefix of the next,
-- perhaps empty.
pub record TakesSome (old new due : List (List ℕ)) : Type 0 where
  pub lines : List (List ℕ)
  pub line : List ℕ
  pub left : List (List ℕ)
  pub part : List ℕ
  pub rest : List ℕ
  pub is : due ≡ lines ++ line ∷ left
  pub line_is : line ≡ part ++ rest
  pub took : new ≡ (old ++ lines) ++ part ∷ []

-- A sink took the pieces `due`, each as one piece; if a put failed, some of them.
abbrev pub TakesLines : Put → List (List ℕ) → List (List ℕ) → List (List ℕ) → Type 0
TakesLines put.Done old new due = new ≡ old ++ due
TakesLines put.Failed old new due = TakesSome old new due

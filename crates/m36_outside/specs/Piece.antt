-- What the answer to a call for the next piece of input implies.
use Rattle.std.specs.Prelude.{ℕ, ◌≡◌, ◌≤◌, List, ◌++◌, length, take, Option, Some, None}
use Rattle.std.specs.Io.KnownBytes.{IsAtEnd}
use Rattle.m36_outside.specs.Counts.{Rose}
use Rattle.m36_outside.specs.declared.lines.Piece.{Piece}
use Rattle.m36_outside.specs.declared.lines.Piece.TheVariants.{Got, End, Failed}

-- what is left, if it is known, with these bytes before it
abbrev pub prepended : List ℕ → Option (List ℕ) → Option (List ℕ)
prepended bytes None = None
prepended bytes (Some left) = Some (bytes ++ left)

-- The first bytes of the buffer were the first of those that were left, and are consumed.
pub record ConsumesIntoBuffer (old new : Option (List ℕ)) (count : ℕ) (into : List ℕ) : Type 0 where
  pub some : 1 ≤ count
  pub room : count ≤ length into
  pub left : old ≡ prepended (take count into) new

-- what the answer implies for what is left, before and after the call, and for the buffer after it
abbrev pub PieceResult : Piece → Option (List ℕ) → Option (List ℕ) → List ℕ → Type 0
PieceResult (Got count) old new into = ConsumesIntoBuffer old new count into
PieceResult End old new into = IsAtEnd old × (new ≡ old)
PieceResult Failed old new into = new ≡ old

-- A failed call raised the count of faults; every other call left it unchanged.
abbrev pub PieceHasCause : Piece → ℕ → ℕ → Type 0
PieceHasCause (Got count) old new = new ≡ old
PieceHasCause End old new = new ≡ old
PieceHasCause Failed old new = Rose old new

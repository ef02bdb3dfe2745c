-- The contract of a call for a piece of input of at most `most` bytes.
use Rattle.std.specs.Prelude.{ℕ, ◌≤◌, List, [], length, take}
use Rattle.m36_outside.specs.declared.lines.Piece.{Piece}
use Rattle.m36_outside.specs.declared.lines.Piece.TheVariants.{Got, End, Failed}
use Rattle.m36_world.specs.Happened.{IsInput, IsInputFailed}
use Rattle.m36_world.specs.Seen.{Seen}

-- A piece of `count` bytes was taken; it is the first bytes of the buffer.
pub record IsPieceTaken (count most : ℕ) (buffer : List ℕ) (old new : Seen) : Type 0 where
  pub within : count ≤ most
  pub some : 1 ≤ count
  pub room : count ≤ length buffer
  pub input : IsInput (take count buffer) old new

-- the contract of the call, by its answer: a piece was taken, the input has ended, or it failed
abbrev pub TakesWithin : Piece → ℕ → List ℕ → Seen → Seen → Type 0
TakesWithin (Got count) most buffer old new = IsPieceTaken count most buffer old new
TakesWithin End most buffer old new = IsInput [] old new
TakesWithin Failed most buffer old new = IsInputFailed old new

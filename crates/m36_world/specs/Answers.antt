-- What the answers of a world's calls imply, by the event that each call logs.
use Rattle.std.specs.Prelude.{ℕ, ◌≤◌, List, [], ◌∷◌, length, take}
use Rattle.m36_outside.specs.Passing.{TakesPart}
use Rattle.m36_outside.specs.declared.lines.Piece.{Piece}
use Rattle.m36_outside.specs.declared.lines.Piece.TheVariants as piece
use Rattle.m36_outside.specs.declared.sink.Put.{Put}
use Rattle.m36_outside.specs.declared.sink.Put.TheVariants as put
use Rattle.m36_world.specs.Happened.{IsOutput, IsOutputFailed, IsInput, IsInputFailed}
use Rattle.m36_world.specs.Follow.{Follow, outputs}
use Rattle.m36_world.specs.Seen.{Seen}

-- A single piece could not be written as a whole. What is written grew exactly by the part that
-- the output took.
pub record IsPutFailed (whole : List ℕ) (old new : Seen) : Type 0 where
  pub part : TakesPart old.written new.written old.outputs new.outputs whole
  pub failed : IsOutputFailed (whole ∷ []) old new

-- what a put did, by its answer
abbrev pub PutDid : Put → List ℕ → Seen → Seen → Type 0
PutDid put.Done piece old new = IsOutput piece old new
PutDid put.Failed piece old new = IsPutFailed piece old new

-- what a put of a block did, by its answer
abbrev pub PutBlockDid : Put → List (List ℕ) → Seen → Seen → Type 0
PutBlockDid put.Done pieces old new = Follow (outputs pieces) old new
PutBlockDid put.Failed pieces old new = IsOutputFailed pieces old new

-- The first `count` bytes of the buffer are the piece of input that was consumed.
pub record IsPieceTaken (count : ℕ) (into : List ℕ) (old new : Seen) : Type 0 where
  pub some : 1 ≤ count
  pub room : count ≤ length into
  pub input : IsInput (take count into) old new

-- what a call for the next piece of input did, by its answer and the buffer after the call
abbrev pub NextPieceDid : Piece → List ℕ → Seen → Seen → Type 0
NextPieceDid (piece.Got count) into old new = IsPieceTaken count into old new
NextPieceDid piece.End into old new = IsInput [] old new
NextPieceDid piece.Failed into old new = IsInputFailed old new

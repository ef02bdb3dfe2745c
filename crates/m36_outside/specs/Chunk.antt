-- What one read of a file appends to the text that was read before.
use Rattle.std.specs.Prelude.{ℕ, ◌≡◌, ◌≤◌, ◌<◌, List, [], ◌∷◌, ◌++◌, length, Option, ⊤}
use Rattle.std.specs.declared.io.ErrorKind.{ErrorKind}
use Rattle.std.specs.Io.KnownBytes.{Consumes, IsAtEnd}
use Rattle.m36_outside.specs.Given.{GivesSome}
use Rattle.m36_outside.specs.ReadAnswer.{file_limit}
use Rattle.m36_outside.specs.Signals.{Signals, GivesUp}
use Rattle.m36_outside.specs.declared.reading.Chunk.{Chunk}
use Rattle.m36_outside.specs.declared.reading.Chunk.TheVariants.{More, End, TooLarge, Failed}
use Rattle.m36_outside.specs.declared.reading.Chunk.TheVariants.{NoMemory}

-- Bytes moved from what the reader had left, if that is known, to the end of the text.
pub record ConsumesIntoText (old new : Option (List ℕ)) (before after : List ℕ) : Type 0 where
  pub got : List ℕ
  pub taken : Consumes old new got
  pub added : after ≡ before ++ got

-- The text grew, and is within the limit.
pub record GrowsWithinLimit (before after : List ℕ) : Type 0 where
  pub limit : length after ≤ file_limit
  pub more : length before < length after

-- what an answer implies for the bytes that are left and for the text, before and after the read
abbrev pub ChunkResult : Chunk → Option (List ℕ) → Option (List ℕ) → List ℕ → List ℕ → Type 0
ChunkResult More old new before after =
    ConsumesIntoText old new before after × GrowsWithinLimit before after
ChunkResult End old new before after =
    ConsumesIntoText old new before after × IsAtEnd new × (after ≡ before)
ChunkResult TooLarge old new before after =
    ConsumesIntoText old new before after × (file_limit < length after)
ChunkResult Failed old new before after = ⊤
ChunkResult NoMemory old new before after = ⊤

-- what an answer implies if the bytes `got` were read and are appended
abbrev pub AddResult : Chunk → List ℕ → List ℕ → List ℕ → Type 0
AddResult More before after got = (after ≡ before ++ got) × GrowsWithinLimit before after
AddResult End before after got = ⊥
AddResult TooLarge before after got = (after ≡ before ++ got) × (file_limit < length after)
AddResult Failed before after got = ⊥
AddResult NoMemory before after got = after ≡ before

-- The reader gave a piece, and it was appended to the text.
pub record GivesPiece (old new : List (List ℕ)) (before after : List ℕ) : Type 0 where
  pub got : List ℕ
  pub gave : new ≡ old ++ got ∷ []
  pub added : after ≡ before ++ got

-- what an answer implies for the pieces given and for the text, before and after the read
abbrev pub ChunkGives :
    Chunk → List (List ℕ) → List (List ℕ) → List ℕ → List ℕ → Type 0
ChunkGives More old new before after = GivesPiece old new before after
ChunkGives End old new before after = (new ≡ old ++ [] ∷ []) × (after ≡ before)
ChunkGives TooLarge old new before after = GivesPiece old new before after
ChunkGives Failed old new before after = new ≡ old
ChunkGives NoMemory old new before after = GivesSome old new

-- Failed: the read gave up. Every other answer: the only errors were interruptions by signals.
abbrev pub ChunkHasError : Chunk → List ErrorKind → List ErrorKind → Type 0
ChunkHasError More old new = Signals old new
ChunkHasError End old new = Signals old new
ChunkHasError TooLarge old new = Signals old new
ChunkHasError Failed old new = GivesUp old new
ChunkHasError NoMemory old new = Signals old new

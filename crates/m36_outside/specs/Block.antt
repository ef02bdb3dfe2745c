-- A block: pieces whose bytes are contiguous in one list.
use Rattle.std.specs.Prelude.{ℕ, ◌≡◌, ◌≤◌, Bool, List, [], ◌∷◌, ◌+◌, ◌&&◌, length, take, drop}
use Rattle.std.specs.Prelude.{nat_le}
use Rattle.std.specs.Prelude.{nat_lt, if◌then◌else◌}
use Rattle.m36_outside.specs.Passing.{joined}

-- the maximum number of bytes in a block
abbrev pub block_bytes : ℕ
block_bytes = 32768

-- the maximum number of pieces in a block
abbrev pub block_pieces : ℕ
block_pieces = 2048

-- whether a block with these pieces has room for one more
abbrev pub has_room : List (List ℕ) → List ℕ → Bool
has_room pieces piece =
    nat_lt (length pieces) block_pieces
    && nat_le (length (joined pieces) + length piece) block_bytes

-- the offset of each piece, if the first has the offset `from`, and then the offset of the end
abbrev pub offsets_of : ℕ → List (List ℕ) → List ℕ
offsets_of from [] = from ∷ []
offsets_of from (piece ∷ pieces) = from ∷ offsets_of (from + length piece) pieces

-- How pieces are stored in a block: `bytes` begins with their bytes, one piece after the other,
-- and `offsets` with their offsets and the offset of the end.
pub record IsStored (bytes offsets : List ℕ) (len count : ℕ) (pieces : List (List ℕ)) : Type 0 where
  pub fits : len ≤ block_bytes
  pub few : count ≤ block_pieces
  pub len_is : len ≡ length (joined pieces)
  pub count_is : count ≡ length pieces
  pub bytes_are : take len bytes ≡ joined pieces
  pub marks_are : take (count + 1) offsets ≡ offsets_of 0 pieces

-- there is room for `wanted` more bytes as one more piece
abbrev pub is_room : ℕ → ℕ → ℕ → Bool
is_room len count wanted = nat_lt count block_pieces && nat_le (len + wanted) block_bytes

-- Splits bytes at the boundaries of pieces: each piece that the bytes have as a whole, and then,
-- if a piece is left, the rest of the bytes, perhaps empty, as a prefix of that piece.
abbrev pub split_at_pieces : List ℕ → List (List ℕ) → List (List ℕ)
split_at_pieces bytes [] = []
split_at_pieces bytes (piece ∷ pieces) =
    if nat_le (length piece) (length bytes)
    then take (length piece) bytes ∷ split_at_pieces (drop (length piece) bytes) pieces
    else bytes ∷ []

-- Bytes in memory that are consumed from the beginning on.
use Rattle.std.specs.Prelude.{ℕ, List, length, min}

-- the number of bytes that are consumed with a buffer of `room` bytes: as many as fit
abbrev pub piece_length : ℕ → List ℕ → ℕ
piece_length room left = min room (length left)

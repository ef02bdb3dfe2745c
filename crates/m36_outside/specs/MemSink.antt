-- Output in memory: its bytes, its pieces, how many bytes it may hold, and which puts fail.
use Rattle.std.specs.Prelude.{ℕ, Bool, List, [], ◌∷◌, ◌++◌, ◌-◌, ◌||◌, length, take, nat_lt}
use Rattle.std.specs.Prelude.{if◌then◌else◌, false}
use Rattle.m36_outside.specs.Counts.{raised}
use Rattle.m36_outside.specs.CallPlan.{CallPlan, new_plan, next_fails, after_call}

-- what was written, the pieces taken, the capacity in bytes, the plan of puts, and the count of
-- faults
pub record MemSinkFields : Type 0 where
  pub bytes : List ℕ
  pub pieces : List (List ℕ)
  pub room : ℕ
  pub puts : CallPlan
  pub faults : ℕ

-- an empty output with room for `room` bytes, and the numbers of the puts that fail
abbrev pub new_sink : ℕ → List ℕ → MemSinkFields
new_sink room puts =
    record { bytes = []; pieces = []; room = room; puts = new_plan puts; faults = 0 }

-- the number of bytes that still fit
abbrev pub room_left : MemSinkFields → ℕ
room_left sink = sink.room - length sink.bytes

-- whether a put fails: its number is listed, or the piece does not fit
abbrev pub put_fails : MemSinkFields → List ℕ → Bool
put_fails sink piece = next_fails sink.puts || nat_lt (room_left sink) (length piece)

-- what is taken of a piece: nothing if the number of the put is listed, otherwise as many of its
-- first bytes as fit
abbrev pub taken_prefix : MemSinkFields → List ℕ → List ℕ
taken_prefix sink piece = if next_fails sink.puts then [] else take (room_left sink) piece

-- the output after a put
abbrev pub after_put : MemSinkFields → List ℕ → MemSinkFields
after_put sink piece = record {
  bytes = sink.bytes ++ taken_prefix sink piece;
  pieces = sink.pieces ++ taken_prefix sink piece ∷ [];
  room = sink.room;
  puts = after_call sink.puts;
  faults = if put_fails sink piece then raised sink.faults else sink.faults;
}

-- whether a put fails if the pieces of a block are put one after another
unfoldable pub block_fails : MemSinkFields → List (List ℕ) → Bool
block_fails sink [] = false
block_fails sink (piece ∷ pieces) =
    put_fails sink piece || block_fails (after_put sink piece) pieces

-- the output after the pieces of a block were put, up to the first put that fails
unfoldable pub after_block : MemSinkFields → List (List ℕ) → MemSinkFields
after_block sink [] = sink
after_block sink (piece ∷ pieces) =
    if put_fails sink piece then after_put sink piece
    else after_block (after_put sink piece) pieces

-- Input in memory: what is left of it, what was given, and which calls fail.
use Rattle.std.specs.Prelude.{ℕ, List, [], ◌∷◌, ◌++◌, take, drop, if◌then◌else◌}
use Rattle.m36_outside.specs.Counts.{raised}
use Rattle.m36_outside.specs.CallPlan.{CallPlan, new_plan, next_fails, after_call}
use Rattle.m36_outside.specs.Remaining.{piece_length}

-- the bytes that are left, the pieces given, the plan of calls, and the count of faults
pub record MemLinesFields : Type 0 where
  pub left : List ℕ
  pub given : List (List ℕ)
  pub calls : CallPlan
  pub faults : ℕ

-- input of these bytes, with the numbers of the calls that fail
abbrev pub new_lines : List ℕ → List ℕ → MemLinesFields
new_lines content calls = record { left = content; given = []; calls = new_plan calls; faults = 0 }

-- the piece that a call gives with a buffer of `room` bytes
abbrev pub next_piece : MemLinesFields → ℕ → List ℕ
next_piece lines room = take (piece_length room lines.left) lines.left

-- The input after a call with a buffer of `room` bytes. A call whose number is listed consumes
-- nothing.
abbrev pub after_piece : MemLinesFields → ℕ → MemLinesFields
after_piece lines room = record {
  left = if next_fails lines.calls then lines.left
      else drop (piece_length room lines.left) lines.left;
  given = if next_fails lines.calls then lines.given else lines.given ++ next_piece lines room ∷ [];
  calls = after_call lines.calls;
  faults = if next_fails lines.calls then raised lines.faults else lines.faults;
}

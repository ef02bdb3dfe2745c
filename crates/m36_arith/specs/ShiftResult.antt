-- The result of a shift: its number with zero and negative, and for a left shift the carry.
-- Overflow is off, and so is carry after every other shift. Multics Processor Manual AL39,
-- "Fixed-point data movement shift instructions".
use Rattle.std.specs.Prelude.{ℕ, ◌-◌, ◌^◌, Bool, false}
use Rattle.m36_model.specs.Arithmetic.{SumFields, result_of}
use Rattle.m36_model.specs.Shifts.{left_shift, left_shift_carry, copying_right_shift}
use Rattle.m36_model.specs.Shifts.{plain_right_shift, rotation}
use Rattle.m36_arith.specs.declared.shifts.Shift.{Shift}
use Rattle.m36_arith.specs.declared.shifts.Shift.TheVariants as shift

-- a number of k bits shifted by a count
abbrev pub shifted_number : Shift → ℕ → ℕ → ℕ → ℕ
shifted_number shift.Left k v c = left_shift k v c
shifted_number shift.Right k v c = copying_right_shift k v c
shifted_number shift.RightZero k v c = plain_right_shift v c
shifted_number shift.Rotate k v c = rotation k v c

-- the carry of a shift of a number of k bits: only a left shift can set it
abbrev pub shift_carry : Shift → ℕ → ℕ → ℕ → Bool
shift_carry shift.Left k v c = left_shift_carry k v c
shift_carry shift.Right k v c = false
shift_carry shift.RightZero k v c = false
shift_carry shift.Rotate k v c = false

-- the result of a shift of a number of k bits
unfoldable pub shift_result : Shift → ℕ → ℕ → ℕ → SumFields
shift_result op k v c =
    result_of (2 ^ (k - 1)) (shifted_number op k v c) (shift_carry op k v c) false

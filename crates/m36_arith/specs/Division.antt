-- A division of words: it is refused, or it has a quotient and a remainder.
-- Multics Processor Manual AL39, "Fixed-point division instructions".
use Rattle.std.specs.Prelude.{◌≡◌, ℕ, ◌^◌, ◌<◌, true, false, not, ◌||◌, ◌==◌, int_div, Result, Ok}
use Rattle.std.specs.Prelude.{Err}
use Rattle.m36_word.specs.Signed.{signed}
use Rattle.m36_model.specs.Arithmetic.{in_range, quotient, remainder, is_divide_check}
use Rattle.m36_arith.specs.declared.divisions.DivideCheck.{DivideCheck}

-- The result of dividing a first word by a second: the quotient and the remainder if the division
-- is not refused, and otherwise a divide check.
abbrev pub IsDivisionResult : Result (ℕ × ℕ) DivideCheck → ℕ → ℕ → Type 0
IsDivisionResult (Ok r) x y =
    (is_divide_check x y ≡ false) × (r.0 ≡ quotient x y) × (r.1 ≡ remainder x y)
IsDivisionResult (Err _) x y = is_divide_check x y ≡ true

-- A division is refused exactly if the divisor is 0, or the signed quotient does not fit into a
-- word.
abbrev pub DivisionRefusalLaw : Type 0
DivisionRefusalLaw =
    (x y : ℕ) → x < 2 ^ 36 → y < 2 ^ 36
    → is_divide_check x y
    ≡ ((y == 0) || not (in_range (2 ^ 35) (int_div (signed (2 ^ 35) x) (signed (2 ^ 35) y))))

-- Multiplication and division. Multics Processor Manual AL39, "Fixed-point multiplication
-- instructions", "Fixed-point division instructions".
use Rattle.std.specs.Prelude.{ℕ, Bool, true, false, Result, Err}
use Rattle.m36_model.specs.Faults.{divide_check}
use Rattle.m36_model.specs.Registers.{RegsFields}
use Rattle.m36_model.specs.Arithmetic.{product, quotient, remainder, is_divide_check}
use Rattle.m36_model.specs.Results.{EffectFields, A, Q, AQ, half, with_value}
use Rattle.m36_model.specs.Results.{with_value_and_indicators, set_zero_negative, completes}
use Rattle.m36_model.specs.Results.{sets_register}

-- MPY: Q times the value to AQ
unfoldable pub multiply : ℕ → RegsFields → Result EffectFields ℕ
multiply v g = sets_register AQ (product g.q v) g

-- DIV, given whether the divide check refuses it
abbrev pub divide_by : Bool → ℕ → RegsFields → Result EffectFields ℕ
divide_by true v g = Err divide_check
divide_by false v g =
    let q = quotient g.q v in
    completes (with_value_and_indicators Q q (set_zero_negative (half Q) q g.ind)
    (with_value A (remainder g.q v) g))

-- DIV: the quotient of Q by the value to Q, and the remainder to A; a divide check changes nothing
unfoldable pub divide : ℕ → RegsFields → Result EffectFields ℕ
divide v g = divide_by (is_divide_check g.q v) v g

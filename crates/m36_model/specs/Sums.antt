-- Additions and subtractions. Multics Processor Manual AL39, "Fixed-point addition instructions",
-- "Fixed-point subtraction instructions", "Fixed-point negate instructions".
use Rattle.std.specs.Prelude.{ℕ, ◌+◌, ◌-◌, ◌^◌, false, not, nat_lt, if◌then◌else◌, [], Result}
use Rattle.m36_model.specs.Registers.{RegsFields}
use Rattle.m36_model.specs.Arithmetic.{SumFields, sum, difference}
use Rattle.m36_model.specs.Results.{EffectFields, Working, A, half, value, words}
use Rattle.m36_model.specs.Results.{with_value_and_indicators}
use Rattle.m36_model.specs.Results.{with_indicators, set_zero_negative_carry}
use Rattle.m36_model.specs.Results.{set_zero_negative_carry_overflow, completes}
use Rattle.m36_model.specs.Results.{completes_or_overflows, sets_register_to_negative}

-- a result to the register; zero, negative, carry and overflow are set
unfoldable pub into_register : Working → SumFields → RegsFields → Result EffectFields ℕ
into_register r s g =
    completes_or_overflows (with_value_and_indicators r s.value
    (set_zero_negative_carry_overflow s g.ind) g) [] s.overflow

-- a result to the register; zero, negative and carry are set, and overflow does not change
unfoldable pub into_register_logical : Working → SumFields → RegsFields → Result EffectFields ℕ
into_register_logical r s g =
    completes (with_value_and_indicators r s.value (set_zero_negative_carry s g.ind) g)

-- a result to the operand; zero, negative, carry and overflow are set
unfoldable pub into_operand : Working → SumFields → RegsFields → Result EffectFields ℕ
into_operand r s g =
    completes_or_overflows (with_indicators (set_zero_negative_carry_overflow s g.ind) g)
    (words r s.value)
    s.overflow

-- ADA, ADQ, ADAQ, ADX, ADL: register plus value
unfoldable pub add : Working → ℕ → RegsFields → Result EffectFields ℕ
add r v g = into_register r (sum (half r) (value r g) v false) g

-- ADLA, ADLQ, ADLAQ, ADLX: as `add`, without overflow
unfoldable pub add_logical : Working → ℕ → RegsFields → Result EffectFields ℕ
add_logical r v g = into_register_logical r (sum (half r) (value r g) v false) g

-- AWCA, AWCQ: register plus value, plus 1 if carry is on
unfoldable pub add_with_carry : Working → ℕ → RegsFields → Result EffectFields ℕ
add_with_carry r v g = into_register r (sum (half r) (value r g) v g.ind.carry) g

-- ADL: a word extended with its sign to a pair
unfoldable pub sign_extended : ℕ → ℕ
sign_extended w = if nat_lt w (2 ^ 35) then w else (w + (2 ^ 72 - 2 ^ 36))

-- SBA, SBQ, SBAQ, SBX: register minus value
unfoldable pub subtract : Working → ℕ → RegsFields → Result EffectFields ℕ
subtract r v g = into_register r (difference (half r) (value r g) v false) g

-- SBLA, SBLQ, SBLAQ, SBLX: as `subtract`, without overflow
unfoldable pub subtract_logical : Working → ℕ → RegsFields → Result EffectFields ℕ
subtract_logical r v g = into_register_logical r (difference (half r) (value r g) v false) g

-- SWCA, SWCQ: register minus value, and minus 1 if carry is off
unfoldable pub subtract_with_carry : Working → ℕ → RegsFields → Result EffectFields ℕ
subtract_with_carry r v g = into_register r (difference (half r) (value r g) v (not g.ind.carry)) g

-- AOS: the word plus 1 to the word
unfoldable pub add_one_to_storage : ℕ → RegsFields → Result EffectFields ℕ
add_one_to_storage v g = into_operand A (sum (half A) v 1 false) g

-- ASA, ASQ, ASX: register plus operand to the operand
unfoldable pub add_to_storage : Working → ℕ → RegsFields → Result EffectFields ℕ
add_to_storage r v g = into_operand r (sum (half r) (value r g) v false) g

-- SSA, SSQ, SSX: register minus operand to the operand
unfoldable pub subtract_stored : Working → ℕ → RegsFields → Result EffectFields ℕ
subtract_stored r v g = into_operand r (difference (half r) (value r g) v false) g

-- NEG, NEGL: the negative of the register to the register
unfoldable pub negate : Working → RegsFields → Result EffectFields ℕ
negate r g = sets_register_to_negative r (value r g) g

-- Shift instructions: the count is the computed address modulo 128.
-- Multics Processor Manual AL39, "Fixed-point data movement shift instructions".
use Rattle.std.specs.Prelude.{ℕ, Bool, Result}
use Rattle.m36_model.specs.Registers.{RegsFields}
use Rattle.m36_model.specs.Shifts.{count_of, left_shift, left_shift_carry, copying_right_shift}
use Rattle.m36_model.specs.Shifts.{plain_right_shift, rotation}
use Rattle.m36_model.specs.Results.{EffectFields, Working, half, width, value}
use Rattle.m36_model.specs.Results.{with_value_and_indicators, set_zero_negative, completes}
use Rattle.m36_model.specs.Results.{sets_register}
use Rattle.m36_model.specs.declared.registers.Ind.{Ind}

-- the indicators with this carry
abbrev pub with_carry : Bool → Ind → Ind
with_carry c i = record i { carry = c }

-- ALS, QLS, LLS: a left shift; carry is set on or off
unfoldable pub shift_left : Working → ℕ → RegsFields → Result EffectFields ℕ
shift_left r address g =
    let v = left_shift (width r) (value r g) (count_of address) in
    let c = left_shift_carry (width r) (value r g) (count_of address) in
    completes (with_value_and_indicators r v (with_carry c (set_zero_negative (half r) v g.ind)) g)

-- ARS, QRS, LRS: a right shift that copies the sign
unfoldable pub shift_right : Working → ℕ → RegsFields → Result EffectFields ℕ
shift_right r address g =
    let v = copying_right_shift (width r) (value r g) (count_of address) in
    sets_register r v g

-- ARL, QRL, LRL: a right shift with zeros
unfoldable pub shift_right_logical : Working → ℕ → RegsFields → Result EffectFields ℕ
shift_right_logical r address g =
    let v = plain_right_shift (value r g) (count_of address) in
    sets_register r v g

-- ALR, QLR, LLR: a rotation to the left
unfoldable pub rotate_left : Working → ℕ → RegsFields → Result EffectFields ℕ
rotate_left r address g =
    let v = rotation (width r) (value r g) (count_of address) in
    sets_register r v g

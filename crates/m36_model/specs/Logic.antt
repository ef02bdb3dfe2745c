-- Boolean instructions on registers and on storage.
-- Multics Processor Manual AL39, "Boolean AND instructions", "Boolean OR instructions", "Boolean
-- exclusive OR instructions".
use Rattle.std.specs.Prelude.{ℕ, Result}
use Rattle.m36_model.specs.Registers.{RegsFields}
use Rattle.m36_model.specs.Booleans.{and_of, or_of, xor_of}
use Rattle.m36_model.specs.Results.{EffectFields, Working, half, width, value, words}
use Rattle.m36_model.specs.Results.{with_test_indicators, completes_with, sets_register}

-- a result to the operand; zero and negative are set
abbrev pub bits_into_operand : Working → ℕ → RegsFields → Result EffectFields ℕ
bits_into_operand r v g = completes_with (with_test_indicators (half r) v g) (words r v)

-- ANA, ANQ, ANAQ, ANX: register AND value to the register
unfoldable pub and_register : Working → ℕ → RegsFields → Result EffectFields ℕ
and_register r v g = sets_register r (and_of (width r) (value r g) v) g

-- ORA, ORQ, ORAQ, ORX: register OR value to the register
unfoldable pub or_register : Working → ℕ → RegsFields → Result EffectFields ℕ
or_register r v g = sets_register r (or_of (width r) (value r g) v) g

-- ERA, ERQ, ERAQ, ERX: register EXCLUSIVE OR value to the register
unfoldable pub xor_register : Working → ℕ → RegsFields → Result EffectFields ℕ
xor_register r v g = sets_register r (xor_of (width r) (value r g) v) g

-- ANSA, ANSQ, ANSX: register AND operand to the operand
unfoldable pub and_storage : Working → ℕ → RegsFields → Result EffectFields ℕ
and_storage r v g = bits_into_operand r (and_of (width r) (value r g) v) g

-- ORSA, ORSQ, ORSX: register OR operand to the operand
unfoldable pub or_storage : Working → ℕ → RegsFields → Result EffectFields ℕ
or_storage r v g = bits_into_operand r (or_of (width r) (value r g) v) g

-- ERSA, ERSQ, ERSX: register EXCLUSIVE OR operand to the operand
unfoldable pub xor_storage : Working → ℕ → RegsFields → Result EffectFields ℕ
xor_storage r v g = bits_into_operand r (xor_of (width r) (value r g) v) g

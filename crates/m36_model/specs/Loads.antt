-- Loads. Multics Processor Manual AL39, "Fixed-point data movement load instructions", "Load
-- indicator register".
use Rattle.std.specs.Prelude.{ℕ, ◌*◌, ◌^◌, [], ◌∷◌, Result}
use Rattle.m36_word.specs.Bits.{is_on}
use Rattle.m36_model.specs.Registers.{RegsFields}
use Rattle.m36_model.specs.Results.{EffectFields, Working, with_indicators, with_tested_value}
use Rattle.m36_model.specs.Results.{completes, completes_with, sets_register}
use Rattle.m36_model.specs.Results.{sets_register_to_negative}
use Rattle.m36_model.specs.declared.registers.Ind.{Ind}

-- LDA, LDQ, LDAQ, LDX, LXL, EAA, EAQ, EAX: value to register; zero and negative are set
unfoldable pub load : Working → ℕ → RegsFields → Result EffectFields ℕ
load r v g = sets_register r v g

-- LCA, LCQ, LCAQ, LCX: the negative of the value to the register
unfoldable pub load_complement : Working → ℕ → RegsFields → Result EffectFields ℕ
load_complement r v g = sets_register_to_negative r v g

-- LDAC, LDQC: value to register, and 0 to the word
unfoldable pub load_and_clear : Working → ℕ → RegsFields → Result EffectFields ℕ
load_and_clear r v g = completes_with (with_tested_value r v g) (0 ∷ [])

-- EAA, EAQ: the computed address in bits 0 to 17, and zeros in the rest
abbrev pub address_in_upper : ℕ → ℕ
address_in_upper address = address * 2 ^ 18

-- The indicators in a word: bit 18 zero, 19 negative, 20 carry, 21 overflow, 24 overflow mask, 25
-- tally runout.
unfoldable pub indicators_of : ℕ → Ind
indicators_of w =
    record {
      zero = is_on w 18;
      negative = is_on w 19;
      carry = is_on w 20;
      overflow = is_on w 21;
      mask = is_on w 24;
      tally = is_on w 25;
    }

-- LDI: the six indicators are loaded from their bits of the word. This never gives an overflow
-- fault.
unfoldable pub load_indicators : ℕ → RegsFields → Result EffectFields ℕ
load_indicators w g = completes (with_indicators (indicators_of w) g)

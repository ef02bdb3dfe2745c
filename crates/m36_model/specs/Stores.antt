-- Stores. Multics Processor Manual AL39, "Fixed-point data movement store instructions", "Store
-- indicator register".
use Rattle.std.specs.Prelude.{ℕ, Bool, ◌≡◌, ◌+◌, ◌*◌, ◌^◌, ◌==◌, if◌then◌else◌, [], ◌∷◌, Result}
use Rattle.m36_word.specs.Bits.{of_bit}
use Rattle.m36_model.specs.Registers.{RegsFields}
use Rattle.m36_model.specs.Results.{EffectFields, Working, value, words, with_indicators, with_zero}
use Rattle.m36_model.specs.Results.{completes_with}
use Rattle.m36_model.specs.Loads.{indicators_of}
use Rattle.m36_model.specs.declared.registers.Ind.{Ind}

-- STA, STQ, STAQ, STX, SXL: register to word, pair or half
unfoldable pub store : Working → RegsFields → Result EffectFields ℕ
store r g = completes_with g (words r (value r g))

-- STZ: 0 to the word
unfoldable pub store_zero : RegsFields → Result EffectFields ℕ
store_zero g = completes_with g (0 ∷ [])

-- The indicators as bits 18 to 35 of a word: 18 zero, 19 negative, 20 carry, 21 overflow, 24
-- overflow mask, 25 tally runout; all others are 0 (this project's choice).
unfoldable pub indicators_half : Ind → ℕ
indicators_half i =
    of_bit i.zero * 2 ^ 17 + of_bit i.negative * 2 ^ 16 + of_bit i.carry * 2 ^ 15
    + of_bit i.overflow * 2 ^ 14 + of_bit i.mask * 2 ^ 11 + of_bit i.tally * 2 ^ 10

-- Indicators that are stored are loaded back.
abbrev pub IndicatorsRoundTrip : Type 0
IndicatorsRoundTrip = (i : Ind) → indicators_of (indicators_half i) ≡ i

-- STI: the indicators to bits 18 to 35 of the word
unfoldable pub store_indicators : RegsFields → Result EffectFields ℕ
store_indicators g = completes_with g (indicators_half g.ind ∷ [])

-- a conditional store: A to the word if the condition holds; zero shows whether it did
abbrev pub store_if : Bool → ℕ → RegsFields → Result EffectFields ℕ
store_if holds v g =
    completes_with (with_indicators (with_zero holds g.ind) g) ((if holds then g.a else v) ∷ [])

-- STAC: stores if the word is 0
unfoldable pub store_if_zero : ℕ → RegsFields → Result EffectFields ℕ
store_if_zero v g = store_if (v == 0) v g

-- STACQ: stores if the word equals Q
unfoldable pub store_if_equal : ℕ → RegsFields → Result EffectFields ℕ
store_if_equal v g = store_if (v == g.q) v g

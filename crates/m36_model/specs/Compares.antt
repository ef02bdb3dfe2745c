-- Comparisons and tests. They change only indicators, except that SZNC also clears the word.
-- Multics Processor Manual AL39, "Fixed-point comparison instructions", "Fixed-point miscellaneous
-- instructions", "Boolean comparative AND and NOT instructions".
use Rattle.std.specs.Prelude.{ℕ, ◌^◌, [], ◌∷◌, Result}
use Rattle.m36_model.specs.Registers.{RegsFields}
use Rattle.m36_model.specs.Arithmetic.{comparison}
use Rattle.m36_model.specs.Booleans.{and_of, xor_of, and_not_of}
use Rattle.m36_model.specs.Results.{EffectFields, Working, half, width, value, with_indicators}
use Rattle.m36_model.specs.Results.{with_test_indicators, set_by_comparison, completes}
use Rattle.m36_model.specs.Results.{completes_with}

-- CMPA, CMPQ, CMPAQ, CMPX: register and value are compared
unfoldable pub compare : Working → ℕ → RegsFields → Result EffectFields ℕ
compare r v g =
    completes (with_indicators (set_by_comparison (comparison (half r) (value r g) v) g.ind) g)

-- zero and negative are set by a number; h is half of its range
abbrev pub test : ℕ → ℕ → RegsFields → Result EffectFields ℕ
test h v g = completes (with_test_indicators h v g)

-- SZN: zero and negative by the word
unfoldable pub test_word : ℕ → RegsFields → Result EffectFields ℕ
test_word v g = test (2 ^ 35) v g

-- SZNC: zero and negative by the word, and 0 to the word
unfoldable pub test_and_clear : ℕ → RegsFields → Result EffectFields ℕ
test_and_clear v g = completes_with (with_test_indicators (2 ^ 35) v g) (0 ∷ [])

-- CMK: zero and negative by the bits in which A and the word differ and Q is 0
unfoldable pub compare_masked : ℕ → RegsFields → Result EffectFields ℕ
compare_masked v g = test (2 ^ 35) (and_not_of 36 (xor_of 36 g.a v) g.q) g

-- CANA, CANQ, CANAQ, CANX: zero and negative by register AND value
unfoldable pub test_and : Working → ℕ → RegsFields → Result EffectFields ℕ
test_and r v g = test (half r) (and_of (width r) (value r g) v) g

-- CNAA, CNAQ, CNAAQ, CNAX: zero and negative by register AND NOT value
unfoldable pub test_and_not : Working → ℕ → RegsFields → Result EffectFields ℕ
test_and_not r v g = test (half r) (and_not_of (width r) (value r g) v) g

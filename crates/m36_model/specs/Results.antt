-- The operands and results of effects: words, working registers, indicators.
-- Multics Processor Manual AL39, "Processor registers" and "Indicator register".
use Rattle.std.specs.Prelude.{ℕ, ◌+◌, ◌/◌, ◌%◌, ◌^◌, Bool, false, ◌||◌, List, [], ◌∷◌, Result, Ok}
use Rattle.std.specs.Prelude.{slice_index, slice_set}
use Rattle.m36_word.specs.Field.{field}
use Rattle.m36_word.specs.Pairs.{number_of, pair_words}
use Rattle.m36_word.specs.declared.pair.Pair.{Pair}
use Rattle.m36_model.specs.Registers.{RegsFields}
use Rattle.m36_model.specs.Arithmetic.{SumFields, ComparisonFields, result_of, negation}
use Rattle.m36_model.specs.declared.effects.Held.{Held}
use Rattle.m36_model.specs.declared.effects.Held.TheVariants as held
use Rattle.m36_model.specs.declared.effects.Operand36.{Operand36}
use Rattle.m36_model.specs.declared.effects.Effect36.{Effect36}
use Rattle.m36_model.specs.declared.registers.Ind.{Ind}

-- The operand of an effect: the words that were read; R1 of their segment for pairs and blocks, or
-- the new ring for CALL6; the core address for ABSA.
pub record OperandFields : Type 0 where
  pub got : List ℕ
  pub ring : ℕ
  pub place : ℕ

-- an operand that is only words
abbrev pub words_only : List ℕ → OperandFields
words_only got = record { got = got; ring = 0; place = 0 }

-- words, with R1 of their segment
abbrev pub words_in_ring : List ℕ → ℕ → OperandFields
words_in_ring got ring = record { got = got; ring = ring; place = 0 }

-- only a new ring
abbrev pub ring_only : ℕ → OperandFields
ring_only ring = words_in_ring [] ring

-- only a core address
abbrev pub place_only : ℕ → OperandFields
place_only place = record { got = []; ring = 0; place = place }

-- The result of an effect: the new registers, the words to write, and whether it has turned the
-- overflow indicator on. A half to write is right-justified in its word.
pub record EffectFields : Type 0 where
  pub regs : RegsFields
  pub put : List ℕ
  pub overflow : Bool

-- the words of the pairs of a block, in order
abbrev pub words_of_pairs : List Pair → List ℕ
words_of_pairs [] = []
words_of_pairs (p ∷ pairs) = p.even ∷ p.odd ∷ words_of_pairs pairs

-- the words that an operand of the code has
abbrev pub words_of_held : Held → List ℕ
words_of_held held.Empty = []
words_of_held (held.One w) = w ∷ []
words_of_held (held.Two p) = pair_words p
words_of_held (held.Block b) = words_of_pairs b

-- an operand of the code, as numbers and lists
abbrev pub operand_fields : Operand36 → OperandFields
operand_fields o = record { got = words_of_held o.got; ring = o.ring; place = o.place }

-- the effect that the code returns, as numbers and lists
abbrev pub effect_fields : Effect36 → EffectFields
effect_fields e = record { regs = e.regs; put = words_of_held e.put; overflow = e.overflow }

-- the operand word Y
abbrev pub word : OperandFields → ℕ
word o = slice_index o.got 0

-- bits 0 to 17 of the operand word Y
abbrev pub upper : OperandFields → ℕ
upper o = field (word o) 0 18

-- bits 18 to 35 of the operand word
abbrev pub lower : OperandFields → ℕ
lower o = field (word o) 18 18

-- an operand pair as a number
abbrev pub pair : OperandFields → ℕ
pair o = number_of (record { even = slice_index o.got 0; odd = slice_index o.got 1 })

-- all indicators off
abbrev pub no_indicators : Ind
no_indicators =
    record {
      zero = false;
      negative = false;
      carry = false;
      overflow = false;
      mask = false;
      tally = false;
    }

-- The registers that arithmetic works on: the accumulator, the quotient register, both as one
-- number of 72 bits, and an index register.
pub data Working : Type 0 where
  A : Working
  Q : Working
  AQ : Working
  X : (n : ℕ) → Working

-- the width of a working register, in bits
abbrev pub width : Working → ℕ
width A = 36
width Q = 36
width AQ = 72
width (X n) = 18

-- half of the range of a working register: 2^(width - 1)
abbrev pub half : Working → ℕ
half A = 2 ^ 35
half Q = 2 ^ 35
half AQ = 2 ^ 71
half (X n) = 2 ^ 17

-- the accumulator and the quotient register as a pair
abbrev pub aq_pair : RegsFields → Pair
aq_pair g = record { even = g.a; odd = g.q }

-- the number that a working register holds
abbrev pub value : Working → RegsFields → ℕ
value A g = g.a
value Q g = g.q
value AQ g = number_of (aq_pair g)
value (X n) g = slice_index g.x n

-- the more significant word of a number of 72 bits
abbrev pub upper_word : ℕ → ℕ
upper_word v = v / 2 ^ 36

-- the less significant word of a number of 72 bits
abbrev pub lower_word : ℕ → ℕ
lower_word v = v % 2 ^ 36

-- the registers with another number in a working register
unfoldable pub with_value : Working → ℕ → RegsFields → RegsFields
with_value A v g = record g { a = v }
with_value Q v g = record g { q = v }
with_value AQ v g = record g { a = upper_word v; q = lower_word v }
with_value (X n) v g = record g { x = slice_set g.x n v }

-- the operand in the register's width: the word, the pair, or bits 0 to 17 of the word
abbrev pub operand : Working → OperandFields → ℕ
operand A o = word o
operand Q o = word o
operand AQ o = pair o
operand (X n) o = upper o

-- a number of the register's width as words to write; that of an index register is right-justified
-- in its word
abbrev pub words : Working → ℕ → List ℕ
words A v = v ∷ []
words Q v = v ∷ []
words AQ v = upper_word v ∷ lower_word v ∷ []
words (X n) v = v ∷ []

-- The indicators after a number: zero is on exactly if it is 0, and negative exactly if its first
-- bit is on. Here and below, indicators that are not named are unchanged.
unfoldable pub set_zero_negative : ℕ → ℕ → Ind → Ind
set_zero_negative h v i =
    let s = result_of h v false false in
    record i { zero = s.zero; negative = s.negative }

-- zero, negative and carry get these values
abbrev pub with_zero_negative_carry : Bool → Bool → Bool → Ind → Ind
with_zero_negative_carry z n c i = record i { zero = z; negative = n; carry = c }

-- zero, negative and carry are set by a result
unfoldable pub set_zero_negative_carry : SumFields → Ind → Ind
set_zero_negative_carry s i = with_zero_negative_carry s.zero s.negative s.carry i

-- zero and negative are set by a result; overflow is turned on if the result has it, and never off;
-- carry is c
abbrev pub with_zero_negative_overflow : SumFields → Bool → Ind → Ind
with_zero_negative_overflow s c i =
    record i {
      zero = s.zero;
      negative = s.negative;
      carry = c;
      overflow = i.overflow || s.overflow;
    }

-- zero, negative and overflow are set by a result; carry does not change
unfoldable pub set_zero_negative_overflow : SumFields → Ind → Ind
set_zero_negative_overflow s i = with_zero_negative_overflow s i.carry i

-- zero, negative, carry and overflow are set by a result
unfoldable pub set_zero_negative_carry_overflow : SumFields → Ind → Ind
set_zero_negative_carry_overflow s i = with_zero_negative_overflow s s.carry i

-- zero, negative and carry are set by a comparison
unfoldable pub set_by_comparison : ComparisonFields → Ind → Ind
set_by_comparison c i = with_zero_negative_carry c.zero c.negative c.carry i

-- indicators with this zero indicator
abbrev pub with_zero : Bool → Ind → Ind
with_zero z i = record i { zero = z }

-- registers with these indicators
abbrev pub with_indicators : Ind → RegsFields → RegsFields
with_indicators i g = record g { ind = i }

-- the word number of the next instruction
abbrev pub next_word : RegsFields → ℕ
next_word g = (g.ppr.ic + 1) % 2 ^ 18

-- the instruction counter advances by 1
unfoldable pub advanced : RegsFields → RegsFields
advanced g = record g { ppr = record g.ppr { ic = next_word g } }

-- the effect with these registers, which writes nothing and does not overflow
abbrev pub yields_registers : RegsFields → Result EffectFields ℕ
yields_registers g = Ok (record { regs = g; put = []; overflow = false })

-- the effect with these registers, except that the instruction counter advances to the next
-- instruction
abbrev pub completes : RegsFields → Result EffectFields ℕ
completes g = yields_registers (advanced g)

-- as `completes`, with words to write, and perhaps overflow
abbrev pub completes_or_overflows : RegsFields → List ℕ → Bool → Result EffectFields ℕ
completes_or_overflows g put overflow =
    Ok (record { regs = advanced g; put = put; overflow = overflow })

-- as `completes`, with words to write
abbrev pub completes_with : RegsFields → List ℕ → Result EffectFields ℕ
completes_with g put = completes_or_overflows g put false

-- the registers with a new value in a register, and with these indicators
abbrev pub with_value_and_indicators : Working → ℕ → Ind → RegsFields → RegsFields
with_value_and_indicators r v i g = with_indicators i (with_value r v g)

-- the registers with zero and negative set by a number; h is half of its range
abbrev pub with_test_indicators : ℕ → ℕ → RegsFields → RegsFields
with_test_indicators h v g = with_indicators (set_zero_negative h v g.ind) g

-- the registers with a new value in a register, and with zero and negative set by it
abbrev pub with_tested_value : Working → ℕ → RegsFields → RegsFields
with_tested_value r v g = with_value_and_indicators r v (set_zero_negative (half r) v g.ind) g

-- the effect that puts a value into a register and sets zero and negative by it
abbrev pub sets_register : Working → ℕ → RegsFields → Result EffectFields ℕ
sets_register r v g = completes (with_tested_value r v g)

-- the effect that puts the negative of a value into a register, and sets zero, negative and
-- overflow by it
abbrev pub sets_register_to_negative : Working → ℕ → RegsFields → Result EffectFields ℕ
sets_register_to_negative r v g =
    let s = negation (half r) v in
    completes_or_overflows (with_value_and_indicators r s.value (set_zero_negative_overflow s g.ind)
    g) [] s.overflow

-- Worked effects: sums, comparisons, products, shifts, a subroutine call.
use Rattle.std.specs.Prelude.{ℕ, ◌≡◌, ◌++◌, ◌-◌, ◌^◌, false, true, List, [], ◌∷◌, replicate}
use Rattle.std.specs.Prelude.{slice_set}
use Rattle.std.specs.Prelude.{Ok, Err}
use Rattle.m36_model.specs.Faults.{divide_check, overflow_fault}
use Rattle.m36_model.specs.Registers.{RegsFields}
use Rattle.m36_model.specs.Store.{State}
use Rattle.m36_model.specs.Arithmetic.{comparison}
use Rattle.m36_model.specs.Results.{A, no_indicators}
use Rattle.m36_model.specs.Booleans.{and_of, or_of, xor_of, and_not_of}
use Rattle.m36_model.specs.Shifts.{left_shift, left_shift_carry, copying_right_shift}
use Rattle.m36_model.specs.Shifts.{plain_right_shift, rotation}
use Rattle.m36_model.specs.Loads.{load_complement, indicators_of}
use Rattle.m36_model.specs.Stores.{indicators_half}
use Rattle.m36_model.specs.Sums.{sign_extended}
use Rattle.m36_model.specs.Products.{multiply, divide}
use Rattle.m36_model.specs.ShiftEffects.{shift_left, shift_right, rotate_left}
use Rattle.m36_model.specs.Worked.{words_from, descriptor_entry, descriptor_with_rings, procedure}
use Rattle.m36_model.specs.Worked.{core_of, at_instruction, at_word, fault_outcome}
use Rattle.m36_model.specs.Worked.{outcome_of_step, registers_after}
use Rattle.m36_model.specs.declared.outcome.Outcome.TheVariants.{Next}

-- 400000000000 compared with 1: as a signed number it is less, and the difference, which wraps, has
-- carry.
abbrev pub ComparisonIsSigned : Type 0
ComparisonIsSigned =
    comparison (2 ^ 35) 0o400000000000 1 ≡ record { zero = false; negative = true; carry = true }

-- `ada 1` of A 377777777777 and 1: the sum is stored and the instruction counter advances. Then the
-- overflow fault is given, unless the mask is on.
abbrev pub sum_core : List ℕ
sum_core =
    core_of 0o100
    (descriptor_entry 1 0o40 (procedure (descriptor_with_rings 0 0 0)) ++ words_from 0o40
    (0o000001075000 ∷ 1 ∷ []))

-- this core, at the sum, with 377777777777 in A
abbrev pub at_sum : State (List ℕ)
at_sum = record { regs = record (at_instruction 1 0 0) { a = 0o377777777777 }; store = sum_core }

-- as `at_sum`, with the overflow mask on
abbrev pub at_masked_sum : State (List ℕ)
at_masked_sum =
    record {
      regs = record at_sum.regs { ind = record no_indicators { mask = true } };
      store = sum_core;
    }

-- Without the mask the step is an overflow fault, and the sum is in A.
abbrev pub OverflowStoresAndFaults : Type 0
OverflowStoresAndFaults =
    (outcome_of_step at_sum ≡ fault_outcome overflow_fault (at_word 1 0 0))
    × (registers_after at_sum ≡ record (at_instruction 1 0 1) {
      a = 0o400000000000;
      ind = record no_indicators { negative = true; overflow = true };
    })

-- With the mask the run continues, and overflow is on.
abbrev pub MaskedOverflowGoesOn : Type 0
MaskedOverflowGoesOn =
    (outcome_of_step at_masked_sum ≡ Next)
    × (registers_after at_masked_sum ≡ record (at_instruction 1 0 1) {
      a = 0o400000000000;
      ind = record no_indicators { negative = true; overflow = true; mask = true };
    })

-- registers with a number in A
abbrev pub with_a : ℕ → RegsFields
with_a v = record (at_instruction 1 0 0) { a = v }

-- registers with a number in Q
abbrev pub with_q : ℕ → RegsFields
with_q v = record (at_instruction 1 0 0) { q = v }

-- the negative of the least number is this number again, with overflow
abbrev pub LeastNumberHasNoNegative : Type 0
LeastNumberHasNoNegative = load_complement A 0o400000000000 (with_a 0) ≡ Ok (record {
  regs = record (at_instruction 1 0 1) {
    a = 0o400000000000;
    ind = record no_indicators { negative = true; overflow = true };
  };
  put = [];
  overflow = true;
})

-- the square of the least number, -2^35, is 2^70, which A and Q hold
abbrev pub SquareOfTheLeastNumber : Type 0
SquareOfTheLeastNumber = multiply 0o400000000000 (with_q 0o400000000000) ≡ Ok (record {
  regs = record (at_instruction 1 0 1) { a = 0o200000000000 };
  put = [];
  overflow = false;
})

-- a division truncates toward zero
abbrev pub QuotientIsCutTowardZero : Type 0
QuotientIsCutTowardZero = divide 0o777777777775 (with_q 7) ≡ Ok (record {
  regs =
      record (at_instruction 1 0 1)
      { a = 1; q = 0o777777777776; ind = record no_indicators { negative = true } };
  put = [];
  overflow = false;
})

-- a division by zero is refused
abbrev pub DivisionByZeroIsRefused : Type 0
DivisionByZeroIsRefused = divide 0 (with_q 7) ≡ Err divide_check

-- a left shift by 1 that changes the sign turns carry on
abbrev pub LeftShiftSetsCarry : Type 0
LeftShiftSetsCarry = shift_left A 1 (with_a 0o200000000000) ≡ Ok (record {
  regs = record (at_instruction 1 0 1) {
    a = 0o400000000000;
    ind = record no_indicators { negative = true; carry = true };
  };
  put = [];
  overflow = false;
})

-- a right shift by 1 of a negative number: the sign bit is copied
abbrev pub RightShiftCopiesTheSign : Type 0
RightShiftCopiesTheSign = shift_right A 1 (with_a 0o400000000000) ≡ Ok (record {
  regs =
      record (at_instruction 1 0 1)
      { a = 0o600000000000; ind = record no_indicators { negative = true } };
  put = [];
  overflow = false;
})

-- a rotation by 1: the first bit becomes the last
abbrev pub RotationComesRound : Type 0
RotationComesRound = rotate_left A 1 (with_a 0o400000000001) ≡ Ok (record {
  regs = record (at_instruction 1 0 1) { a = 3 };
  put = [];
  overflow = false;
})

-- core with one segment: `tsx1 5` at word 3
abbrev pub subroutine_core : List ℕ
subroutine_core =
    core_of 0o100
    (descriptor_entry 1 0o40 (procedure (descriptor_with_rings 0 0 0)) ++ words_from 0o43
    (0o000005701000 ∷ []))

-- this core, at the instruction in ring 0
abbrev pub at_subroutine : State (List ℕ)
at_subroutine = record { regs = at_instruction 1 0 3; store = subroutine_core }

-- X1 has the word number of the next instruction, and the run continues at word 5.
abbrev pub TransferSetsTheIndex : Type 0
TransferSetsTheIndex =
    registers_after at_subroutine
    ≡ record (at_instruction 1 0 5) { x = slice_set (replicate 8 0) 1 4 }

-- 14 and 12 in octal, bit by bit
abbrev pub BooleansGoBitByBit : Type 0
BooleansGoBitByBit =
    (and_of 36 0o14 0o12 ≡ 0o10) × (or_of 36 0o14 0o12 ≡ 0o16) × (xor_of 36 0o14 0o12 ≡ 0o6)
    × (and_not_of 36 0o14 0o12 ≡ 0o4)
    × (and_of 72 0o200000000000000000000000 (2 ^ 72 - 1) ≡ 0o200000000000000000000000)

-- Shifts of 72 bits by a word and more: the last bit of Q goes into A, and back. After 72 or more,
-- a left shift leaves zeros, a right shift copies of the sign, and a rotation has wrapped around.
abbrev pub LongShiftsCrossTheWords : Type 0
LongShiftsCrossTheWords =
    (left_shift 72 1 36 ≡ 2 ^ 36) × (plain_right_shift (2 ^ 36) 36 ≡ 1) × (left_shift 72 1 127 ≡ 0)
    × (copying_right_shift 72 (2 ^ 71) 127 ≡ 2 ^ 72 - 1) × (rotation 72 1 73 ≡ 2)
    × (left_shift_carry 36 0o777777777777 35 ≡ false)
    × (left_shift_carry 36 0o777777777777 36 ≡ true)
    × (left_shift_carry 36 0o400000000000 0 ≡ false)

-- -1 as a word is -1 as a pair
abbrev pub SignIsExtended : Type 0
SignIsExtended =
    (sign_extended 0o777777777777 ≡ 2 ^ 72 - 1) × (sign_extended 0o377777777777 ≡ 0o377777777777)

-- LDI loads each indicator from its bit.
abbrev pub IndicatorsAreLoaded : Type 0
IndicatorsAreLoaded =
    (indicators_of 0o400000 ≡ record no_indicators { zero = true })
    × (indicators_of 0o200000 ≡ record no_indicators { negative = true })
    × (indicators_of 0o100000 ≡ record no_indicators { carry = true })
    × (indicators_of 0o040000 ≡ record no_indicators { overflow = true })
    × (indicators_of 0o004000 ≡ record no_indicators { mask = true })
    × (indicators_of 0o002000 ≡ record no_indicators { tally = true })

-- STI stores each indicator at its bit.
abbrev pub IndicatorsAreStored : Type 0
IndicatorsAreStored =
    (indicators_half (record no_indicators { zero = true; negative = true; carry = true })
    ≡ 0o700000)
    × (indicators_half (record no_indicators { overflow = true; mask = true; tally = true })
    ≡ 0o046000)

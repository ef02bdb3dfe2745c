-- How the registers of the code map to those of the definitions.
use Rattle.std.specs.Prelude.{◌≡◌, ℕ, ◌<◌, List, length, IsTrue}
use Rattle.m36_model.specs.declared.effects.Held.{Held}
use Rattle.m36_model.specs.OperandHeld.{is_word, is_pair}
use Rattle.m36_model.specs.Results.{Working, A, Q, AQ, X}
use Rattle.m36_model.specs.WordsPut.{IsHalf}
use Rattle.m36_xdata.specs.declared.registers.Register.{Register}
use Rattle.m36_xdata.specs.declared.registers.Register.TheVariants as register

-- the register of the definitions
abbrev pub working_of : Register → Working
working_of register.A = A
working_of register.Q = Q
working_of register.Aq = AQ
working_of (register.X n) = X n

-- An index register has a number below 8.
abbrev pub HasValidIndex : Register → Type 0
HasValidIndex register.A = Unit {0}
HasValidIndex register.Q = Unit {0}
HasValidIndex register.Aq = Unit {0}
HasValidIndex (register.X n) = n < 8

-- the operand has as many words as the register's width requires: a pair for AQ, and otherwise one
-- word
abbrev pub HoldsNumber : Register → Held → Type 0
HoldsNumber register.A h = IsTrue (is_word h)
HoldsNumber register.Q h = IsTrue (is_word h)
HoldsNumber register.Aq h = IsTrue (is_pair h)
HoldsNumber (register.X n) h = IsTrue (is_word h)

-- the words to write for a number of a register: a pair for AQ, a half for an index register, and
-- otherwise one word
abbrev pub PutsNumber : Register → List ℕ → Type 0
PutsNumber register.A words = length words ≡ 1
PutsNumber register.Q words = length words ≡ 1
PutsNumber register.Aq words = length words ≡ 2
PutsNumber (register.X n) words = IsHalf words

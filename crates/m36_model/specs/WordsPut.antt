-- The words that an effect gives to be written, and which part of a word each replaces, by how the
-- instruction references its operand. A half is right-justified in a word.
use Rattle.std.specs.Prelude.{ℕ, ◌≡◌, ◌^◌, ◌<◌, List, length}
use Rattle.std.specs.List.{All}
use Rattle.m36_inst.specs.declared.operand.Operand.{Operand}
use Rattle.m36_inst.specs.declared.operand.Operand.TheVariants as kind
use Rattle.m36_model.specs.Act.{Part, Whole, Left, Right}

-- the number of words that an instruction writes
abbrev pub words_written : Operand → ℕ
words_written kind.W = 1
words_written kind.W2 = 2
words_written kind.W16 = 16
words_written kind.Wl = 1
words_written kind.Wr = 1
words_written kind.Rw = 1
words_written kind.Rwl = 1
words_written _ = 0

-- the part of each word that an instruction writes
abbrev pub part_written : Operand → Part
part_written kind.Wl = Left
part_written kind.Wr = Right
part_written kind.Rwl = Left
part_written _ = Whole

-- a half has 18 bits
abbrev pub FitsHalf : ℕ → Type 0
FitsHalf w = w < 2 ^ 18

-- one word of 18 bits
abbrev pub IsHalf : List ℕ → Type 0
IsHalf words = (length words ≡ 1) × All (λ w. FitsHalf w) words

-- What holds of the words that an effect gives to be written: they are as many as the instruction
-- writes, and one of 18 bits if they replace a half.
abbrev pub PutsFor : Operand → List ℕ → Type 0
PutsFor kind.Wl words = IsHalf words
PutsFor kind.Wr words = IsHalf words
PutsFor kind.Rwl words = IsHalf words
PutsFor operand words = length words ≡ words_written operand

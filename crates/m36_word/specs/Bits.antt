-- Single bits of a word as Booleans.
use Rattle.std.specs.Prelude.{ℕ, Bool, true, false, ◌==◌}
use Rattle.m36_word.specs.Field.{bit}

-- whether bit i of a word is on; bit 0 is the most significant of 36
abbrev pub is_on : ℕ → ℕ → Bool
is_on w i = bit w i == 1

-- a Boolean as a bit: 1 for true
abbrev pub of_bit : Bool → ℕ
of_bit true = 1
of_bit false = 0

use Rattle.std.proofs.Common.{◌≡◌, ◌≤◌, ◌++◌, length, map, drop}
use Rattle.std.specs.Int.Digits.{digits_of}
use Rattle.m36_text.specs.Digits.{digit_character, decimal_text}
use Rattle.m36_text.proofs.numerals.put_decimal.Given as goal

abbrev pub invariant-loop-left : goal.invariant-loop-left
invariant-loop-left l = record {
  written : map digit_character (digits_of 10 l.left) ++ drop l.start l.bytes ≡ decimal_text l.v;
  len : length l.bytes ≡ 20;
  room : length (digits_of 10 l.left) ≤ l.start;
  within : l.start ≤ 19;
}

abbrev pub decreases-loop-left : goal.decreases-loop-left
decreases-loop-left l = l.left

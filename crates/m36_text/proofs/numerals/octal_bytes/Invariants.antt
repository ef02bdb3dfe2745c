use Rattle.std.proofs.Common.{◌≡◌, ◌-◌, ◌/◌, ◌^◌, length, drop}
use Rattle.m36_text.specs.Digits.{octal_text}
use Rattle.m36_text.proofs.numerals.octal_bytes.Given as goal

abbrev pub invariant-loop-place : goal.invariant-loop-place
invariant-loop-place l = record {
  written : drop (22 - l.place) l.bytes ≡ octal_text l.place l.v;
  len : length l.bytes ≡ 22;
  rest : l.left ≡ l.v / 8 ^ l.place;
}

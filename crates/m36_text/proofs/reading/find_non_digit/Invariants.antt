use Rattle.std.proofs.Common.{◌≡◌, ℕ, ◌<◌, false, not, get_or}
use Rattle.m36_text.specs.Digits.{is_digit}
use Rattle.m36_text.proofs.reading.find_non_digit.Given as goal

-- Each earlier byte is a digit.
abbrev pub invariant-loop-place : goal.invariant-loop-place
invariant-loop-place l = (k : ℕ) → k < l.place → not (is_digit l.base (get_or l.t k 0)) ≡ false

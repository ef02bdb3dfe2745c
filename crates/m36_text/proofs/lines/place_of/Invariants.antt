use Rattle.std.proofs.Common.{◌≡◌, ℕ, ◌<◌, ◌==◌, false, get_or}
use Rattle.m36_text.proofs.lines.place_of.Given as goal

-- The byte does not occur earlier.
abbrev pub invariant-loop-place : goal.invariant-loop-place
invariant-loop-place l = (k : ℕ) → k < l.place → (get_or l.text k 0 == l.byte) ≡ false

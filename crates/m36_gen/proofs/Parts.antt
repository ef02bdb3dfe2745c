-- Parts that are joined.
use Rattle.std.proofs.Common.{◌≡◌, ℕ, List, ◌++◌, append_assoc}
use Rattle.std.specs.Prelude.{codes}
use Rattle.m36_text.specs.Digits.{decimal_text}
use Rattle.m36_gen.specs.Lines.{line, line_with_number}
use Rattle.m36_gen.specs.BootText.{segment_line}

-- a line with a number in it
pub numbered_put : (old before behind : List ℕ) (n : ℕ) → ((old ++ before) ++ decimal_text n) ++ line behind ≡ old ++ line_with_number before n behind
unfolding line line_with_number
numbered_put old before behind n = simp append_assoc

pub named_put : (old before name behind : List ℕ) → ((old ++ before) ++ name) ++ line behind ≡ old ++ line (before ++ name ++ behind)
unfolding line
named_put old before name behind = simp append_assoc

-- the line of a segment
pub segment_put : (old name has : List ℕ)
    → (((((old ++ codes "segment >gen ") ++ name) ++ codes " ") ++ name) ++ codes " ") ++ line has ≡ old ++ segment_line name has
unfolding line segment_line
segment_put old name has = simp append_assoc

-- lines
pub three : (old a b c : List ℕ) → ((old ++ a) ++ b) ++ c ≡ old ++ (a ++ b ++ c)
three old a b c = simp append_assoc

pub two : (old a b : List ℕ) → (old ++ a) ++ b ≡ old ++ (a ++ b)
two old a b = simp append_assoc

pub ruleset together = (two, three)

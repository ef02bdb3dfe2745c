-- The findings of a verdict, in the form that `m36_model` uses.
use Rattle.std.specs.Prelude.{ℕ, List, map}
use Rattle.m36_audit.specs.declared.verdict.Finding.{Finding}

-- the number of the condition, and the place
abbrev pub finding_pair : Finding → ℕ × ℕ
finding_pair f = (f.condition, f.place)

-- findings, each as the number of its condition and its place
abbrev pub finding_pairs : List Finding → List (ℕ × ℕ)
finding_pairs findings = map finding_pair findings

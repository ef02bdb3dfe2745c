use Rattle.std.proofs.Common.{ℕ, ◌<◌}
use Rattle.m36_audit.specs.Breaks.{Breaks}
use Rattle.m36_audit.proofs.breaking.first_segment.Given as goal

-- No earlier segment breaks the condition.
abbrev pub invariant-loop-seg : goal.invariant-loop-seg
invariant-loop-seg l = (q : ℕ) → q < l.seg → Breaks l.condition l.core l.dbr q → ⊥

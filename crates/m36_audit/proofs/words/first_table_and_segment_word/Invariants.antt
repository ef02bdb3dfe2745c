use Rattle.std.proofs.Common.{ℕ, ◌<◌, ◌^◌}
use Rattle.m36_model.specs.Audit.{IsTableAndSegment}
use Rattle.m36_audit.specs.Runs.{run, IsOpenCount}
use Rattle.m36_audit.proofs.words.first_table_and_segment_word.Given as goal

-- No earlier word breaks the condition.
abbrev pub invariant-loop-a : goal.invariant-loop-a
invariant-loop-a l = record {
  opened : IsOpenCount (run l.core l.dbr) (2 ^ 23) l.a l.open_runs;
  none : (q : ℕ) → q < l.a → IsTableAndSegment l.core l.dbr q → ⊥;
}

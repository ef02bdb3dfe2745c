use Rattle.std.proofs.Common.{ℕ, ◌<◌, ◌≤◌, ◌^◌}
use Rattle.m36_model.specs.Audit.{IsInTwoSegments}
use Rattle.m36_audit.specs.Runs.{run, IsOpenCount}
use Rattle.m36_audit.proofs.words.first_word_in_two_segments.Given as goal

-- No earlier word breaks the condition, so at most one run is open.
abbrev pub invariant-loop-a : goal.invariant-loop-a
invariant-loop-a l = record {
  opened : IsOpenCount (run l.core l.dbr) (2 ^ 23) l.a l.open_runs;
  few : l.open_runs ≤ 1;
  none : (q : ℕ) → q < l.a → IsInTwoSegments l.core l.dbr q → ⊥;
}

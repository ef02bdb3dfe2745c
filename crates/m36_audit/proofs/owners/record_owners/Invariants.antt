use Rattle.std.proofs.Common.{◌+◌, ◌^◌}
use Rattle.std.specs.Prelude.{◌==◌, not, nat_lt, slice_index}
use Rattle.m36_audit.specs.Runs.{run, coverage, IsOpenCount}
use Rattle.m36_audit.specs.WordOwners.{AreOwned}
use Rattle.m36_audit.proofs.owners.record_owners.Given as goal

-- The words before this one are recorded.
abbrev pub invariant-loop-a : goal.invariant-loop-a
invariant-loop-a l = record {
  opened : IsOpenCount (run l.core l.dbr) (2 ^ 23) l.a l.open_runs;
  of_tables : AreOwned (λ q. not (slice_index l.marks.tables q == 0)) (l.k + 1) l.a l.fn.tables.values.items l.tables.values.items;
  of_segments : AreOwned (λ q. nat_lt 0 (coverage l.core l.dbr q)) (l.k + 1) l.a l.fn.segments.values.items l.segments.values.items;
}

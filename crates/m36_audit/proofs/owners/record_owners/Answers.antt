use Rattle.std.proofs.Common.{ℕ, ◌+◌, ap, arith}
use Rattle.std.specs.Prelude.{not, ◌==◌, nat_lt, slice_index}
use Rattle.m36_audit.specs.Runs.{coverage}
use Rattle.m36_audit.proofs.ProcessOwners.{owned_next}
use Rattle.m36_audit.proofs.owners.record_owners.Goals as goal

pub open_runs_at-open_runs-requires-clause-before : goal.open_runs_at-open_runs-requires-clause-before
open_runs_at-open_runs-requires-clause-before c = c.loop-a.invariant.opened

pub loop-a-preserved : goal.loop-a-preserved
loop-a-preserved c =
    let size = c.len-a-end.ensures.value in
    let inside = c.loop-a-test.true in
    let tables_len = c.requires.tables_len in
    let segments_len = c.requires.segments_len in
    record {
      opened = c.open_runs_at-open_runs.ensures.after;
      of_tables = owned_next (λ q. not (slice_index c.args.marks.now.tables q == 0)) (c.args.k + 1) c.loop-a.a (not (c.at.result == 0)) c.args.tables.now.values.items c.loop-a.tables.values.items c.record_owner.new.recorded.values.items (ap (λ (n : ℕ). not (n == 0)) c.at.ensures) (omega arith) c.record_owner.ensures c.loop-a.invariant.of_tables;
      of_segments = owned_next (λ q. nat_lt 0 (coverage c.args.core.now c.args.dbr q)) (c.args.k + 1) c.loop-a.a (nat_lt 0 c.open_runs_at-open_runs.result) c.args.segments.now.values.items c.loop-a.segments.values.items c.record_owner-in-loop-a.new.recorded.values.items (ap (nat_lt 0) c.open_runs_at-open_runs.ensures.value) (omega arith) c.record_owner-in-loop-a.ensures c.loop-a.invariant.of_segments;
    }

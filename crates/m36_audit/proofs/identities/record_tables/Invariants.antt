use Rattle.std.proofs.Common.{◌≡◌}
use Rattle.m36_audit.specs.WordOwners.{segments_recorded}
use Rattle.m36_audit.proofs.identities.record_tables.Given as goal

-- The segments before this one are recorded.
abbrev pub invariant-loop-seg : goal.invariant-loop-seg
invariant-loop-seg l =
    l.recorded.values.items ≡ segments_recorded l.core l.dbr l.firsts.items l.k l.seg l.fn.recorded.values.items

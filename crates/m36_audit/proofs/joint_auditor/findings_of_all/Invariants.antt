use Rattle.std.proofs.Common.{◌≡◌, ◌*◌, ◌≤◌, length}
use Rattle.arrayvec.specs.ArrayVec.{array_vec_len}
use Rattle.m36_audit.specs.Joints.{AreWordOwners, AreFindingsOfFirst}
use Rattle.m36_audit.proofs.joint_auditor.findings_of_all.Given as goal

-- The findings of the processes before this one are in the list.
abbrev pub invariant-loop-k : goal.invariant-loop-k
invariant-loop-k l = record {
  marks_len : length l.marks.tables ≡ length l.core;
  starts_len : length l.counts.starts ≡ length l.core;
  stops_len : length l.counts.stops ≡ length l.core;
  found : AreFindingsOfFirst l.core l.dbrs l.k l.findings.items;
  room : array_vec_len l.findings ≤ 6 * l.k;
  recorded : AreWordOwners l.core l.dbrs l.firsts.items l.k l.owners.tables.values.items l.owners.segments.values.items l.owners.identities.values.items;
}

use Rattle.std.proofs.Common.{◌≡◌, ◌+◌, ◌≤◌, ◌++◌, take}
use Rattle.arrayvec.specs.ArrayVec.{array_vec_len}
use Rattle.m36_model.specs.JointAudit.{findings_of_process}
use Rattle.m36_audit.specs.Findings.{finding_pairs}
use Rattle.m36_audit.specs.Joints.{all_found}
use Rattle.m36_audit.proofs.joint_verdict.note_process.Given as goal

-- The findings before this one are in the list.
abbrev pub invariant-loop-f : goal.invariant-loop-f
invariant-loop-f l = record {
  listed : all_found l.findings.items ≡ all_found l.fn.findings.items ++ findings_of_process l.process (finding_pairs (take l.f-index l.list));
  len : array_vec_len l.findings ≤ array_vec_len l.fn.findings + l.f-index;
}

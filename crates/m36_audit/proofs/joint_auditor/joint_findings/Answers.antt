use Rattle.std.proofs.Common.{ℕ, length, ◌∙◌, ap}
use Rattle.std.specs.Prelude.{replicate}
use Rattle.m36_audit.specs.WordOwners.{joint_run}
use Rattle.m36_audit.proofs.SegmentRuns.{nothing_counted}
use Rattle.m36_audit.proofs.joint_auditor.joint_findings.Goals as goal

pub count_processes-requires-clause-before : goal.count_processes-requires-clause-before
count_processes-requires-clause-before c =
    nothing_counted (joint_run c.args.core.now c.args.dbrs.now c.args.firsts.now.items) (length c.args.core.now) c.clear.new.self.starts c.clear.new.self.stops
    (c.clear.ensures.starts ∙ ap (λ (n : ℕ). replicate n 0) c.findings_of_all-findings.ensures.starts_len)
    (c.clear.ensures.stops ∙ ap (λ (n : ℕ). replicate n 0) c.findings_of_all-findings.ensures.stops_len)

use Rattle.std.proofs.Common.{ℕ, ◌<◌, length, ◌∙◌, ap, subst, arith}
use Rattle.std.specs.Prelude.{replicate}
use Rattle.m36_desc.specs.Fields.{DbrFields}
use Rattle.m36_model.specs.Audit.{AreFindings}
use Rattle.m36_audit.specs.Findings.{finding_pairs}
use Rattle.m36_audit.specs.Runs.{run}
use Rattle.m36_audit.proofs.SegmentRuns.{nothing_counted}
use Rattle.m36_audit.proofs.Noting.{dbr_at}
use Rattle.m36_audit.proofs.ProcessOwners.{tables_owned, segments_owned}
use Rattle.m36_audit.proofs.TableIdentities.{process_told}
use Rattle.m36_audit.proofs.JointVerdicts.{one_dbr}
use Rattle.m36_audit.proofs.joint_auditor.findings_of.Goals as goal

pub count_segments-requires : goal.count_segments-requires
count_segments-requires c = record {
  before = nothing_counted (run c.args.core.now c.index-dbrs-k.result) (length c.args.core.now) c.clear-2.new.self.starts c.clear-2.new.self.stops
      (c.clear-2.ensures.starts ∙ ap (λ (n : ℕ). replicate n 0) c.requires.starts_len)
      (c.clear-2.ensures.stops ∙ ap (λ (n : ℕ). replicate n 0) c.requires.stops_len);
}

pub returns-clause-findings : goal.returns-clause-findings
returns-clause-findings c =
    λ dbr at.
    subst (λ (d : DbrFields). AreFindings c.args.core.now d (finding_pairs c.findings_from_marks.result.findings.items))
    (one_dbr c.args.dbrs.now c.args.k c.index-dbrs-k.result dbr (dbr_at c.args.dbrs.now c.args.k c.index-dbrs-k.result c.requires.process c.index-dbrs-k.is) at)
    c.findings_from_marks.ensures

pub returns-clause-after : goal.returns-clause-after
returns-clause-after c =
    let process = c.requires.process in
    let most = c.requires.few in
    let few : c.args.k < 8 = omega arith in
    let at = dbr_at c.args.dbrs.now c.args.k c.index-dbrs-k.result c.requires.process c.index-dbrs-k.is in
    let recorded = c.record_tables.ensures in
    record {
      of_tables = tables_owned c.args.core.now c.args.dbrs.now c.index-dbrs-k.result c.args.k few at c.mark_tables.new.marks.tables c.mark_tables.new.marks.least c.mark_tables.ensures c.args.owners.now.tables.values.items c.record_owners.new.tables.values.items c.record_owners.ensures.tables c.requires.before.of_tables;
      of_segments = segments_owned c.args.core.now c.args.dbrs.now c.index-dbrs-k.result c.args.k few at c.args.owners.now.segments.values.items c.record_owners.new.segments.values.items c.record_owners.ensures.segments c.requires.before.of_segments;
      of_identities = process_told c.args.core.now c.args.dbrs.now c.args.firsts.now.items c.requires.equal_descriptors.below c.args.k few (length c.args.core.now) c.index-dbrs-k.result recorded.0 recorded.1 at c.args.owners.now.identities.values.items c.record_tables.new.recorded.values.items recorded.2 c.requires.before.of_identities;
    }

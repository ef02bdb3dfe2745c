-- The lines before the run were put, or not.
use Rattle.std.proofs.Common.{◌∙◌, ap, length}
use Rattle.m36_dir.specs.Catalog.{CatalogFields}
use Rattle.m36_audit.specs.Findings.{finding_pairs}
use Rattle.m36_super.specs.SuperFields.{booted_of}
use Rattle.cmd_make.proofs.SummarySteps.{found_put, found_unput}
use Rattle.cmd_make.proofs.summary.perform_for_findings.Goals as goal

pub returns-in-Ok : goal.returns-in-Ok
returns-in-Ok g c =
    found_put c.count-count.result c.args.system.now.lib (booted_of c.args.system.now)
    (finding_pairs c.args.findings.now) c.run_or_end.result _ _ _
    (c.count-count.ensures.value ∙ ap (λ (k : CatalogFields). length k.segments) c.catalog.ensures) c.in-Ok.ensures
    c.run_or_end.ensures

pub returns-in-Err : goal.returns-in-Err
returns-in-Err g c =
    found_unput c.count-count.result c.args.system.now.lib (booted_of c.args.system.now)
    (finding_pairs c.args.findings.now) c.in-Err.status _ _
    (c.count-count.ensures.value ∙ ap (λ (k : CatalogFields). length k.segments) c.catalog.ensures) c.in-Err.ensures

-- The run follows the audit's text.
use Rattle.m36_audit.specs.Findings.{finding_pairs}
use Rattle.cmd_image.proofs.ImageSteps.{run_audited}
use Rattle.cmd_image.proofs.answering.run_audited.Goals as goal

pub returns-in-Ok : goal.returns-in-Ok
returns-in-Ok g c =
    run_audited c.args.steps _ c.args.image (finding_pairs c.args.findings.now) c.run.result _ _ _ c.machine_of-machine.ensures.state c.in-Ok.ensures c.run.ensures

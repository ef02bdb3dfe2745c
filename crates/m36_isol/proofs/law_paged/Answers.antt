use Rattle.m36_isol.proofs.BootedNumbers.{booted_numbers}
use Rattle.m36_isol.proofs.Laid.{laid_apart}
use Rattle.m36_isol.proofs.PagedStep.{paged_step_law}
use Rattle.m36_isol.proofs.Moved.{moved_law}
use Rattle.m36_isol.proofs.LaidAudit.{same_audit, flat_audit}
use Rattle.m36_isol.proofs.law_paged.Goals as goal

pub returns : goal.returns
returns c =
    record {
      apart = laid_apart;
      step = paged_step_law;
      moved = moved_law;
      audit = same_audit;
      flat = flat_audit;
      numbers = booted_numbers;
    }

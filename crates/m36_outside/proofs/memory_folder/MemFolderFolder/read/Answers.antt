-- A read that does not have to fail has no cause.
use Rattle.std.proofs.Common.{ap, subst}
use Rattle.m36_outside.specs.MemFolder.{MemFolderFields}
use Rattle.m36_outside.specs.ReadAnswer.{ReadHasCause}
use Rattle.m36_outside.proofs.Causes.{sure_read}
use Rattle.m36_outside.proofs.memory_folder.MemFolderFolder.read.Goals as goal

pub returns-clause-cause : goal.returns-clause-cause
returns-clause-cause c =
    subst (λ n. ReadHasCause c.read-answer.result n c.self.inside.read_faults) (ap (λ (f : MemFolderFields). f.read_faults) c.self.view_is)
    (sure_read c.read-answer.result c.self.inside.read_faults c.read-answer.ensures.sure)

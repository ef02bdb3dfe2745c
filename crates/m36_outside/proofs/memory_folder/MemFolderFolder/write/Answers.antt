-- A write that failed changes no file, and one that does not have to fail has no cause.
use Rattle.std.proofs.Common.{ap, subst}
use Rattle.m36_outside.specs.MemFolder.{MemFolderFields}
use Rattle.m36_outside.specs.WriteAnswer.{WriteHasCause}
use Rattle.m36_outside.proofs.memory_folder.MemFolderFolder.write.Goals as goal

pub returns-clause-cause : goal.returns-clause-cause
returns-clause-cause c =
    subst (λ n. WriteHasCause c.write-answer.result n c.self.inside.write_faults) (ap (λ (f : MemFolderFields). f.write_faults) c.self.view_is)
    (c.write-answer.ensures.cause c.self.inside.write_faults)

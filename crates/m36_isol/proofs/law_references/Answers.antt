use Rattle.m36_isol.proofs.Pages.{few_references}
use Rattle.m36_isol.proofs.law_references.Goals as goal

pub returns : goal.returns
returns c = few_references

use Rattle.m36_isol.proofs.PageLaw.{pages_law}
use Rattle.m36_isol.proofs.law_pages.Goals as goal

pub returns : goal.returns
returns c = pages_law

use Rattle.m36_super.proofs.LaidSections.{laying_law}
use Rattle.m36_super.proofs.law_laying.Goals as goal

pub returns : goal.returns
returns c = laying_law

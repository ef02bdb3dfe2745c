use Rattle.m36_boot.proofs.ImageLaw.{image_numbers, may_start_law}
use Rattle.m36_boot.proofs.law_image.Goals as goal

pub returns-clause-numbers : goal.returns-clause-numbers
returns-clause-numbers c = image_numbers

pub returns-clause-start : goal.returns-clause-start
returns-clause-start c = may_start_law

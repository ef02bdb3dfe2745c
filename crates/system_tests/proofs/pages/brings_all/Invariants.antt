use Rattle.m36_page.specs.Residence.{HasFrames, AgreesWithCore}
use Rattle.system_tests.proofs.pages.brings_all.Given as goal

-- core as each call requires it
abbrev pub invariant-loop-row : goal.invariant-loop-row
invariant-loop-row l = record { frames : HasFrames l.paged.pager l.paged.core; reads : AgreesWithCore l.paged.pager l.paged.core }

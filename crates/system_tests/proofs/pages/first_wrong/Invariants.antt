use Rattle.m36_page.specs.Residence.{HasFrames, AgreesWithCore}
use Rattle.system_tests.proofs.pages.first_wrong.Given as goal

-- core as each call requires it
abbrev pub invariant-loop-i : goal.invariant-loop-i
invariant-loop-i l = record { frames : HasFrames l.paged.pager l.paged.core; reads : AgreesWithCore l.paged.pager l.paged.core }

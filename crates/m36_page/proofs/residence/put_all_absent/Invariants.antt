use Rattle.m36_page.specs.Copied.{IsFilled}
use Rattle.m36_page.specs.Residence.{absent_ptw}
use Rattle.m36_page.proofs.residence.put_all_absent.Given as goal

-- the page table words so far are written
abbrev pub invariant-loop-page : goal.invariant-loop-page
invariant-loop-page l = IsFilled l.at l.page absent_ptw l.fn.core l.core

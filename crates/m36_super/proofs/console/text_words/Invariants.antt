use Rattle.m36_super.specs.Writing.{flat_by}
use Rattle.m36_super.proofs.ConsoleReads.{IsReading}
use Rattle.m36_super.proofs.console.text_words.Given as goal

abbrev pub invariant-loop-left : goal.invariant-loop-left
invariant-loop-left l =
    IsReading l.regs (flat_by l.core l.pager) l.count l.k l.left l.text.items

abbrev pub decreases-loop-left : goal.decreases-loop-left
decreases-loop-left l = l.left

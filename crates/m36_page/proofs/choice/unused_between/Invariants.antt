use Rattle.m36_page.specs.Choice.{IsHeldSpot, ClearsMarksAt}
use Rattle.m36_page.proofs.choice.unused_between.Given as goal

-- only used marks have changed so far
abbrev pub invariant-loop-k : goal.invariant-loop-k
invariant-loop-k l = ClearsMarksAt l.fn.core l.core (IsHeldSpot l.references l.holders l.spots)

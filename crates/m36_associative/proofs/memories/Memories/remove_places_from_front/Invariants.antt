use Rattle.std.proofs.Common.{List, ℕ}
use Rattle.m36_desc.specs.Fields.{DbrFields}
use Rattle.m36_associative.specs.Right.{AreCoherent}
use Rattle.m36_associative.proofs.memories.Memories.remove_places_from_front.Given as goal

abbrev pub invariant-loop : goal.invariant-loop
invariant-loop l = (core : List ℕ) (dbr : DbrFields) → AreCoherent core dbr l.fn.self → AreCoherent core dbr l.self

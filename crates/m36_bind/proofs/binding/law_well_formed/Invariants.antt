use Rattle.std.proofs.Common.{drop}
use Rattle.m36_bind.specs.Meaning.{AreObjects}
use Rattle.m36_bind.proofs.binding.law_well_formed.Given as goal

-- a property of the rest is one of all
abbrev pub invariant-loop-object : goal.invariant-loop-object
invariant-loop-object l = AreObjects (drop l.object-index l.objects) → AreObjects l.objects

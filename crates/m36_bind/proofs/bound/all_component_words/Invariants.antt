use Rattle.std.proofs.Common.{◌≡◌, [], length}
use Rattle.m36_bind.specs.Bound.{with_component_words}
use Rattle.m36_bind.proofs.bound.all_component_words.Given as goal

-- the rest completes the whole
abbrev pub invariant-loop-rest : goal.invariant-loop-rest
invariant-loop-rest l = with_component_words l.frame l.statics l.out l.rest ≡ with_component_words l.frame l.statics [] l.all

abbrev pub decreases-loop-rest : goal.decreases-loop-rest
decreases-loop-rest l = length l.rest

use Rattle.std.proofs.Common.{◌≡◌, ◌≤◌, ◌^◌, length}
use Rattle.m36_link.specs.Known.{lot_words, next_base}
use Rattle.m36_link.proofs.sections.next_base_in_ring.Given as goal

-- the base so far, continued with the rest of the sections, is the base after all of them
abbrev pub invariant-loop-rest : goal.invariant-loop-rest
invariant-loop-rest l = record {
  base : next_base l.ring l.base l.rest ≡ next_base l.ring lot_words l.laid;
  small : l.base ≤ 2 ^ 18;
}

abbrev pub decreases-loop-rest : goal.decreases-loop-rest
decreases-loop-rest l = length l.rest

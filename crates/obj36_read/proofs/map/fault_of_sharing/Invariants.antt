use Rattle.std.proofs.Common.{◌≡◌, ◌-◌}
use Rattle.obj36_read.specs.MapFaults.{first_shared_word, shared_fault}
use Rattle.obj36_read.proofs.map.fault_of_sharing.Given as goal

-- the first shared word of the rest is the first of all
abbrev pub invariant-loop-at : goal.invariant-loop-at
invariant-loop-at l = first_shared_word l.e l.at (l.at-end - l.at) ≡ shared_fault l.words

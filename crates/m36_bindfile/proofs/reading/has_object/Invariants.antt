use Rattle.std.proofs.Common.{◌≡◌, length}
use Rattle.m36_bindfile.specs.BindFile.{has_object}
use Rattle.m36_bindfile.proofs.reading.has_object.Given as goal

-- the rest completes the whole
abbrev pub invariant-loop-line : goal.invariant-loop-line
invariant-loop-line l = has_object l.rest ≡ has_object l.text

abbrev pub decreases-loop-line : goal.decreases-loop-line
decreases-loop-line l = length l.rest

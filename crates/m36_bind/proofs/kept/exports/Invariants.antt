use Rattle.std.proofs.Common.{◌≡◌, [], length}
use Rattle.m36_bind.specs.Kept.{exports_from}
use Rattle.m36_bind.proofs.kept.exports.Given as goal

-- the rest completes the whole
abbrev pub invariant-loop-rest : goal.invariant-loop-rest
invariant-loop-rest l = exports_from l.frame l.table l.rest ≡ exports_from l.frame [] l.all

abbrev pub decreases-loop-rest : goal.decreases-loop-rest
decreases-loop-rest l = length l.rest

use Rattle.std.proofs.Common.{◌≡◌}
use Rattle.m36_acl.proofs.Rights.{granted_up_to}
use Rattle.m36_acl.proofs.granting.grant_all.Given as goal

-- the segments so far have their rights
abbrev pub invariant-loop-i : goal.invariant-loop-i
invariant-loop-i l = l.catalog ≡ granted_up_to l.lists l.user l.i l.initial.catalog

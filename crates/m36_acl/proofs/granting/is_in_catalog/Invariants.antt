use Rattle.std.proofs.Common.{◌≡◌, drop}
use Rattle.std.specs.List.{list_any}
use Rattle.m36_acl.specs.Granted.{is_list_for, is_in_catalog}
use Rattle.m36_acl.proofs.granting.is_in_catalog.Given as goal

-- the rest completes the whole
abbrev pub invariant-loop-i : goal.invariant-loop-i
invariant-loop-i l = list_any (is_list_for l.catalog l.given) (drop l.i l.catalog.segments) ≡ is_in_catalog l.catalog l.given

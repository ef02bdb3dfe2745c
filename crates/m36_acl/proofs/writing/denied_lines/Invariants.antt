use Rattle.std.proofs.Common.{◌≡◌, ◌++◌, drop, map}
use Rattle.m36_acl.specs.AccessText.{denied_line, denied_lines}
use Rattle.m36_acl.proofs.writing.denied_lines.Given as goal

-- the lines of the segments that are left complete those of all
abbrev pub invariant-loop-i : goal.invariant-loop-i
invariant-loop-i l =
    l.told ++ map (denied_line l.lists l.user l.catalog.directories) (drop l.i l.catalog.segments) ≡ denied_lines l.lists l.user l.catalog

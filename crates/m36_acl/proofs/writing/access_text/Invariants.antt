use Rattle.std.proofs.Common.{◌≡◌, ◌++◌, drop}
use Rattle.m36_acl.specs.AccessText.{access_from, access_text}
use Rattle.m36_acl.proofs.writing.access_text.Given as goal

-- the lines of the segments that are left complete the text
abbrev pub invariant-loop-i : goal.invariant-loop-i
invariant-loop-i l =
    l.text ++ access_from l.lists l.user l.catalog.directories (drop l.i l.catalog.segments) ≡ access_text l.lists l.user l.catalog

use Rattle.std.proofs.Common.{◌≡◌, ◌++◌, drop}
use Rattle.m36_dir.specs.Catalog.{segments_in}
use Rattle.m36_dir.proofs.building.segments_in.Given as goal

-- the rest completes the whole
abbrev pub invariant-loop-i : goal.invariant-loop-i
invariant-loop-i l = l.segments.items ++ segments_in l.dirs (drop l.i l.lines) ≡ segments_in l.dirs l.lines

use Rattle.std.proofs.Common.{◌≡◌, ◌++◌, drop}
use Rattle.m36_dir.specs.Catalog.{libraries_in}
use Rattle.m36_dir.proofs.building.libraries_in.Given as goal

-- the rest completes the whole
abbrev pub invariant-loop-line : goal.invariant-loop-line
invariant-loop-line l = l.libraries.items ++ libraries_in l.dirs (drop l.line-index l.lines) ≡ libraries_in l.dirs l.lines

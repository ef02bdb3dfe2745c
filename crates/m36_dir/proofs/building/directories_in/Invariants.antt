use Rattle.std.proofs.Common.{◌≡◌, [], drop}
use Rattle.m36_dir.specs.Catalog.{directories_from}
use Rattle.m36_dir.proofs.building.directories_in.Given as goal

-- the rest completes the whole
abbrev pub invariant-loop-line : goal.invariant-loop-line
invariant-loop-line l = directories_from l.dirs.items (drop l.line-index l.lines) ≡ directories_from [] l.lines

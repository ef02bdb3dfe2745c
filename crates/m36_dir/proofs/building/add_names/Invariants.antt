use Rattle.std.proofs.Common.{◌≡◌, ◌++◌, drop}
use Rattle.m36_dir.specs.Catalog.{names_after}
use Rattle.m36_dir.proofs.building.add_names.Given as goal

-- the rest completes the whole
abbrev pub invariant-loop-line : goal.invariant-loop-line
invariant-loop-line l = l.names ++ names_after (drop l.line-index l.lines) ≡ l.fn.names ++ names_after l.lines

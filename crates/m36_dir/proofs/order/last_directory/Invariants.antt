use Rattle.std.proofs.Common.{◌≡◌, [], drop}
use Rattle.m36_dir.specs.BootOrder.{directory_at_end}
use Rattle.m36_dir.proofs.order.last_directory.Given as goal

-- the rest completes the whole
abbrev pub invariant-loop-line : goal.invariant-loop-line
invariant-loop-line l = directory_at_end l.dir (drop l.line-index l.lines) ≡ directory_at_end [] l.lines

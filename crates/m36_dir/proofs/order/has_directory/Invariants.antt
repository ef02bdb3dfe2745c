use Rattle.std.proofs.Common.{◌≡◌, length}
use Rattle.m36_dir.specs.BootOrder.{has_directory, well_formed_lines}
use Rattle.m36_dir.proofs.order.has_directory.Given as goal

-- the rest completes the whole
abbrev pub invariant-loop-line : goal.invariant-loop-line
invariant-loop-line l = has_directory (well_formed_lines l.rest) l.dir ≡ has_directory (well_formed_lines l.text) l.dir

abbrev pub decreases-loop-line : goal.decreases-loop-line
decreases-loop-line l = length l.rest

use Rattle.std.proofs.Common.{◌≡◌, ◌+◌, ◌-◌}
use Rattle.obj36_read.specs.TableFaults.{are_characters}
use Rattle.obj36_read.proofs.spelling.have_name_bytes.Given as goal

-- the result is that for the rest
abbrev pub invariant-loop-i : goal.invariant-loop-i
invariant-loop-i l = are_characters l.d l.at (l.from + l.i) (l.count - l.i) ≡ are_characters l.d l.at l.from l.count

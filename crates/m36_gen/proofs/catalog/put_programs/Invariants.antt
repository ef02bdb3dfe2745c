use Rattle.std.proofs.Common.{◌≡◌, ◌++◌}
use Rattle.m36_gen.specs.BootText.{program_lines}
use Rattle.m36_gen.proofs.catalog.put_programs.Given as goal

-- the lines of the programs so far
abbrev pub invariant-loop-i : goal.invariant-loop-i
invariant-loop-i l = l.text ≡ l.fn.text ++ program_lines l.i

use Rattle.std.proofs.Common.{◌≡◌, length}
use Rattle.alm_asm.specs.Assembly.{last_line}
use Rattle.alm_asm.proofs.assembly.last_line.Given as goal

-- the last line of the rest is the last of all
abbrev pub invariant-loop-rest : goal.invariant-loop-rest
invariant-loop-rest l = last_line l.number l.rest ≡ last_line 1 l.lines

abbrev pub decreases-loop-rest : goal.decreases-loop-rest
decreases-loop-rest l = length l.rest

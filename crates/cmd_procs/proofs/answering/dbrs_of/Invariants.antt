use Rattle.std.proofs.Common.{◌≡◌, ◌++◌, drop}
use Rattle.cmd_procs.proofs.Registers.{bases}
use Rattle.cmd_procs.proofs.answering.dbrs_of.Given as goal

-- the registers of the processes before this one are in the list, and with those of the rest they are all
abbrev pub invariant-loop-i : goal.invariant-loop-i
invariant-loop-i l = l.dbrs.items ++ bases (drop l.i l.procs.state.regs) ≡ bases l.procs.state.regs

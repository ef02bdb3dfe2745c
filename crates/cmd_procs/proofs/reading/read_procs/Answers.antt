-- The bytes were read.
use Rattle.std.proofs.Common.{ℕ, [], List, subst}
use Rattle.m36_program.specs.Goes.{Goes}
use Rattle.m36_program.specs.Program.{quiet}
use Rattle.cmd_procs.specs.ProcsProgram.{decode}
use Rattle.cmd_procs.proofs.ProcsSteps.{procs_read}
use Rattle.cmd_procs.proofs.reading.read_procs.Goals as goal

pub returns-in-Ok : goal.returns-in-Ok
returns-in-Ok g c =
    procs_read c.args.name.now c.in-Ok.text c.decode-given.result _ _ (c.in-Ok.ensures.performs quiet) (subst (λ (b : List ℕ). Goes {may = quiet} (decode c.args.name.now b) [] c.decode-given.result) c.bytes.ensures c.decode-given.ensures)

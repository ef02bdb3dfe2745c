-- The code and the line of the refusal are those of the text.
use Rattle.m36_procs.specs.declared.fault.ProcsCode.TheVariants as code
use Rattle.cmd_procs.proofs.ProcsSteps.{decode_refused}
use Rattle.cmd_procs.proofs.reading.decode.Goals as goal

pub returns-in-Err-P1 : goal.returns-in-Err-P1
returns-in-Err-P1 c =
    decode_refused c.args.name.now c.args.bytes.now c.in-Err-P1.line code.P1 c.refuse.result (rw c.in-Err-P1.field-0-is at c.in-Err-P1.ensures) c.refuse.ensures

pub returns-in-Err-P2 : goal.returns-in-Err-P2
returns-in-Err-P2 c =
    decode_refused c.args.name.now c.args.bytes.now c.in-Err-P2.line code.P2 c.refuse-in-Err-P2.result (rw c.in-Err-P2.field-0-is at c.in-Err-P2.ensures) c.refuse-in-Err-P2.ensures

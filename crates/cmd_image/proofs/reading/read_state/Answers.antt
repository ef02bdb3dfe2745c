-- The bytes were read, or not.
use Rattle.std.proofs.Common.{ℕ, [], List, subst}
use Rattle.m36_program.specs.Goes.{Goes}
use Rattle.cmd_image.specs.ImageProgram.{decode}
use Rattle.cmd_image.proofs.ImageSteps.{state_read, state_unread}
use Rattle.cmd_image.proofs.reading.read_state.Goals as goal

pub returns-in-Ok : goal.returns-in-Ok
returns-in-Ok g c = λ may.
    state_read may c.args.name.now c.in-Ok.text c.decode-given.result _ _ (c.in-Ok.ensures.performs may)
    (subst (λ (b : List ℕ). Goes {may = may} (decode c.args.name.now b) [] c.decode-given.result) c.bytes.ensures (c.decode-given.ensures may))

pub returns-in-Err : goal.returns-in-Err
returns-in-Err g c = λ may. state_unread may c.args.name.now c.in-Err.status _ _ (c.in-Err.ensures.performs may)

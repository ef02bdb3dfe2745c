use Rattle.std.proofs.Common.{refl, Some, None}
use Rattle.m36_inst.specs.Operands.{operand_of}
use Rattle.m36_model.specs.Step.{execute_admitted}
use Rattle.m36_step.proofs.Ends.{starts_nothing, ends_halted}
use Rattle.m36_step.proofs.execute.execute_permitted.Goals as goal

pub returns-in-N-clause-ends : goal.returns-in-N-clause-ends
returns-in-N-clause-ends c =
    let g = c.args.regs.now in
    let row = c.args.row.now in
    ends_halted g (Some c.args.word) None c.no_address.result c.args.walk.now.core c.args.refs.now.items (execute_admitted row.effect row.reg g c.args.word (operand_of row.effect)) c.args.regs.now c.end_of_halt.result (starts_nothing g row.effect row.reg c.args.word row.operand c.no_address.result c.requires.row.operand c.in-N.is c.no_address.ensures) refl c.end_of_halt.ensures

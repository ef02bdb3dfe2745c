use Rattle.m36_model.specs.Results.{operand_fields}
use Rattle.m36_xfer.proofs.Puts.{words_put}
use Rattle.m36_xfer.proofs.execute.exec.Goals as goal

pub returns-clause-put : goal.returns-clause-put
returns-clause-put c =
    words_put c.args.row.now.effect c.args.row.now.reg c.args.regs.now c.args.f.now (operand_fields c.args.operand) c.dispatch.result c.requires.control c.dispatch.ensures

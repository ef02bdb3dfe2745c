use Rattle.m36_model.specs.Results.{operand_fields}
use Rattle.m36_xptr.proofs.Puts.{words_put}
use Rattle.m36_xptr.proofs.execute.exec.Goals as goal

pub returns-clause-put : goal.returns-clause-put
returns-clause-put c =
    words_put c.args.row.now.effect c.args.row.now.reg c.args.regs.now c.args.f.now (operand_fields c.args.operand) c.dispatch.result c.requires.pointer c.dispatch.ensures

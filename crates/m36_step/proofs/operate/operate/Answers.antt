use Rattle.std.proofs.Common.{◌∙◌}
use Rattle.m36_model.specs.Chain.{chain_end_fields}
use Rattle.m36_model.specs.Results.{operand_fields, words_of_held}
use Rattle.m36_model.specs.Step.{with_chain_tally}
use Rattle.m36_inst.specs.Operands.{operand_of}
use Rattle.m36_model.specs.declared.effects.Effect36.{Effect36}
use Rattle.m36_step.proofs.Operations.{performed_by_kind, refused_by_kind, refused_puts_nothing, puts_count}
use Rattle.m36_step.proofs.operate.operate.Goals as goal

pub returns-in-Ok-execute_effect-clause-operates : goal.returns-in-Ok-execute_effect-clause-operates
returns-in-Ok-execute_effect-clause-operates c =
    let row = c.args.row.now in
    let x : Effect36 = record { regs = c.execute_effect.new.regs; put = c.execute_effect.new.put; overflow = c.in-Ok-execute_effect.overflow } in
    let l = puts_count row.operand (operand_of row.effect) (words_of_held x.put) c.requires.row.operand (c.in-Ok-execute_effect.ensures {u = tt}).put in
    (c.in-Ok.ensures {u = tt}).reaches
    ∙ performed_by_kind row.effect row.reg c.args.regs.now c.args.formed.now c.reach.new.walk.core c.reach.new.refs.items c.reach.new.operand c.in-Ok.reached x (c.in-Ok-execute_effect.ensures {u = tt}).value row.operand l

pub returns-in-Err-execute_effect-clause-operates : goal.returns-in-Err-execute_effect-clause-operates
returns-in-Err-execute_effect-clause-operates c =
    let row = c.args.row.now in
    let g = c.args.regs.now in
    let f = c.args.formed.now in
    let h = (c.in-Err-execute_effect.ensures {u = tt}).value.0 in
    let none = refused_puts_nothing row.effect row.reg (with_chain_tally g (chain_end_fields f)) g f.last (operand_fields c.reach.new.operand) c.in-Err-execute_effect.fault h in
    (c.in-Ok.ensures {u = tt}).reaches
    ∙ refused_by_kind row.effect row.reg g f c.reach.new.walk.core c.reach.new.refs.items c.reach.new.operand c.in-Ok.reached c.in-Err-execute_effect.fault c.execute_effect.new.regs c.execute_effect.new.put h row.operand (rw c.requires.row.operand none)

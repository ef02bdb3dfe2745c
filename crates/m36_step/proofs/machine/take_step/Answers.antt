use Rattle.std.proofs.Common.{ℕ, List, ap, sym}
use Rattle.m36_model.specs.Registers.{RegsFields}
use Rattle.m36_model.specs.Store.{State}
use Rattle.m36_step.specs.Ended.{end_in_record}
use Rattle.m36_step.proofs.Ends.{step_told, step_left}
use Rattle.m36_step.proofs.machine.take_step.Goals as goal

pub returns-clause-told : goal.returns-clause-told
returns-clause-told c =
    let s : State (List ℕ) = record { regs = c.args.regs.now; store = c.args.walk.now.core } in
    let ends = c.record_step.ensures.ends in
    rw (c.record_step.ensures.ppr, ap (λ (x : RegsFields). x.ppr) c.regs.view_is, c.copy_registers.ensures.copied) (sym (step_told s c.record_step.new.walk.core c.record_step.new.told.refs.items c.record_step.new.regs (end_in_record c.record_step.new.told) ends))

pub returns-clause-state : goal.returns-clause-state
returns-clause-state c =
    let s : State (List ℕ) = record { regs = c.args.regs.now; store = c.args.walk.now.core } in
    let ends = c.record_step.ensures.ends in
    sym (step_left s c.record_step.new.walk.core c.record_step.new.told.refs.items c.record_step.new.regs (end_in_record c.record_step.new.told) ends)

use Rattle.std.proofs.Common.{refl, ◌∙◌, Some, None}
use Rattle.m36_model.specs.Step.{execute_decoded, decode}
use Rattle.m36_model.specs.declared.outcome.Halt.TheVariants as halt
use Rattle.m36_model.specs.declared.outcome.Stop.TheVariants as stop
use Rattle.m36_step.proofs.Ends.{no_row, a_row, ends_halted}
use Rattle.m36_step.proofs.execute.decode_and_execute.Goals as goal

pub returns-in-None-clause-ends : goal.returns-in-None-clause-ends
returns-in-None-clause-ends c =
    let g = c.args.regs.now in
    ends_halted g (Some c.args.word) None (halt.Stop stop.Operation) c.args.walk.now.core c.args.refs.now.items (execute_decoded g c.args.word c.args.privileged (decode c.args.word)) c.args.regs.now c.end_of_halt.result (no_row g c.args.word c.args.privileged _ (c.inst.view_is ∙ c.of_word-inst.ensures.value) (c.in-None.ensures {u = tt}).value) refl c.end_of_halt.ensures

pub returns-in-Some-clause-ends : goal.returns-in-Some-clause-ends
returns-in-Some-clause-ends c =
    let row = a_row c.args.regs.now c.args.word c.args.privileged _ c.in-Some.row (c.inst.view_is ∙ c.of_word-inst.ensures.value) (c.in-Some.ensures {u = tt}).value in
    rw row c.check_privilege_and_execute.ensures.ends

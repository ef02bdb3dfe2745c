use Rattle.std.proofs.Common.{refl, ◌≡◌, ◌∙◌, ap, sym, not, ◌&&◌, Bool, true, Some, None}
use Rattle.m36_inst.specs.Operands.{is_privileged}
use Rattle.m36_model.specs.Modification.{here, halt_at}
use Rattle.m36_model.specs.Step.{execute_unless_barred}
use Rattle.m36_step.proofs.Ends.{ends_halted}
use Rattle.m36_step.proofs.execute.check_privilege_and_execute.Goals as goal

pub returns-then-not-privileged-clause-ends : goal.returns-then-not-privileged-clause-ends
returns-then-not-privileged-clause-ends c =
    let g = c.args.regs.now in
    let row = c.args.row.now in
    let refused : (is_privileged row.effect && not c.args.privileged) ≡ true = rw (sym c.requires.row.privileged ∙ c.if-row.true, c.if-not-privileged.true) in
    ends_halted g (Some c.args.word) None (halt_at 10 (here g)) c.args.walk.now.core c.args.refs.now.items (execute_unless_barred row.effect row.reg g c.args.word (is_privileged row.effect && not c.args.privileged)) c.args.regs.now c.end_of_halt.result (ap (λ (b : Bool). execute_unless_barred row.effect row.reg g c.args.word b) refused) refl (rw c.fault_here.ensures at c.end_of_halt.ensures)

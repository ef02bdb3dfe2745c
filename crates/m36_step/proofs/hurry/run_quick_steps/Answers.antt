use Rattle.std.proofs.Common.{ℕ, ◌+◌, ◌<◌, ◌∙◌, List, arith}
use Rattle.m36_model.specs.Store.{State}
use Rattle.m36_step.proofs.Hurrying.{Taken, none_taken, one_more}
use Rattle.m36_step.proofs.hurry.run_quick_steps.Goals as goal

pub loop-taken-init : goal.loop-taken-init
loop-taken-init c =
    let start : State (List ℕ) = record { regs = c.args.regs.now; store = c.args.walk.now.core } in
    let none = none_taken start in
    record { few = omega arith; dbr = c.requires.dbr; state = none.state; on = none.on; plain = none.plain }

pub loop-taken-preserved : goal.loop-taken-preserved
loop-taken-preserved c =
    let start : State (List ℕ) = record { regs = c.args.regs.now; store = c.args.walk.now.core } in
    let before : State (List ℕ) = record { regs = c.loop-taken.regs; store = c.loop-taken.walk.core } in
    let later : State (List ℕ) = record { regs = c.try_quick_step.new.regs; store = c.try_quick_step.new.walk.core } in
    let inv = c.loop-taken.invariant in
    let taken : Taken start before c.loop-taken.taken = record { state = inv.state; on = inv.on; plain = inv.plain } in
    let more = one_more start before later c.loop-taken.taken taken (c.try_quick_step.ensures.went c.if-not-try_quick_step.false) in
    record { few = omega arith; dbr = c.try_quick_step.ensures.dbr; state = more.state; on = more.on; plain = more.plain }

use Rattle.std.proofs.Common.{ℕ, List, rules}
use Rattle.m36_model.specs.Store.{State}
use Rattle.m36_step.proofs.Showing.{step_shown, shown_after, shown_left}
use Rattle.m36_step.proofs.shown.take_shown_step.Goals as goal

pub returns-clause-shown : goal.returns-clause-shown
returns-clause-shown c =
    let s : State (List ℕ) = record { regs = c.args.regs.now; store = c.args.walk.now.core } in
    let step = c.show_step in
    step_shown s step.new.walk.core step.new.regs step.new.shown step.ensures.ends (search rules)

pub returns-clause-after : goal.returns-clause-after
returns-clause-after c =
    let s : State (List ℕ) = record { regs = c.args.regs.now; store = c.args.walk.now.core } in
    let step = c.show_step in
    shown_after s step.new.walk.core step.new.regs step.new.shown step.ensures.ends

pub returns-clause-state : goal.returns-clause-state
returns-clause-state c =
    let s : State (List ℕ) = record { regs = c.args.regs.now; store = c.args.walk.now.core } in
    let step = c.show_step in
    shown_left s step.new.walk.core step.new.regs step.new.shown step.ensures.ends

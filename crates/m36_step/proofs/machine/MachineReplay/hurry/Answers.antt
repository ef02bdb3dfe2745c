use Rattle.std.proofs.Common.{◌≡◌, ◌∙◌, ap, sym, refl, None}
use Rattle.m36_step.specs.Hurry.{apply_repeatedly, state_after_steps}
use Rattle.m36_step.specs.MachineFields.{MachineFields}
use Rattle.m36_step.proofs.Hurrying.{turns_repeated, turns_on}
use Rattle.m36_step.proofs.machine.MachineReplay.hurry.Goals as goal

pub returns-in-None-clause-state : goal.returns-in-None-clause-state
returns-in-None-clause-state c =
    let going = ap (λ (x : MachineFields). x.ended) (sym c.self.view_is) ∙ c.in-None.is in
    let ended = c.hurry.ensures.ended ∙ going in
    let left : c.hurry.new.self ≡ record { state = state_after_steps c.hurry.result c.args.self.now.state; ended = None } = λ i. record { state = c.hurry.ensures.state i; ended = ended i } in
    left ∙ sym (turns_repeated c.args.self.now c.hurry.result going c.hurry.ensures.on)

pub returns-in-None-clause-on : goal.returns-in-None-clause-on
returns-in-None-clause-on c =
    let going = ap (λ (x : MachineFields). x.ended) (sym c.self.view_is) ∙ c.in-None.is in
    turns_on c.args.self.now c.hurry.result going c.hurry.ensures.on

pub returns-clause-state : goal.returns-clause-state
unfolding apply_repeatedly
returns-clause-state c = refl

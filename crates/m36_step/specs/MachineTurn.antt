-- The turns of a machine: steps, until one has ended the run.
use Rattle.std.specs.Prelude.{◌≡◌, ℕ, ◌⊎◌, List, Option, Some, None}
use Rattle.std.proofs.Common.{inr, refl, subst, ap, ◌∙◌}
use Rattle.m36_model.specs.Core.{core_store}
use Rattle.m36_model.specs.Step.{record_of, state_after}
use Rattle.m36_model.specs.Store.{State}
use Rattle.m36_model.specs.declared.endings.End.{End}
use Rattle.m36_model.specs.declared.endings.End.TheVariants as end
use Rattle.m36_model.specs.declared.outcome.Outcome.{Outcome}
use Rattle.m36_model.specs.declared.outcome.Outcome.TheVariants.{Next, Faulted, Stopped}
use Rattle.m36_step.specs.Answers.{HasGoneBack, IsService, IsStep, IsHalted, IsStepOrEnd, IsUnable}
use Rattle.m36_step.specs.Answers.{PrecludesStep}
use Rattle.m36_step.specs.MachineFields.{MachineFields}
use Rattle.m36_step.specs.declared.turns.Turn.{Turn}
use Rattle.m36_step.specs.declared.turns.Turn.TheVariants.{Stepped, Ended}
use Rattle.m36_step.specs.declared.turns.BackAnswer.{BackAnswer}

-- how a step with this outcome ends the run, if it does
abbrev pub end_by_outcome : Outcome → Option End
end_by_outcome Next = None
end_by_outcome (Faulted fault) = Some (end.Fault fault)
end_by_outcome (Stopped stop) = Some (end.Stop stop)

-- the turn of a state, given how the run has ended
abbrev pub turn_given_end : Option End → State (List ℕ) → Turn
turn_given_end None s = Stepped (record_of core_store s)
turn_given_end (Some e) s = Ended e

-- the machine after the turn of a state, given how the run has ended
abbrev pub after_given_end : Option End → State (List ℕ) → MachineFields
after_given_end None s =
    record {
      state = state_after core_store s;
      ended = end_by_outcome (record_of core_store s).outcome;
    }
after_given_end (Some e) s = record { state = s; ended = Some e }

-- A turn is a step, until one has ended the run; from then on each turn reports that end.
unfoldable pub machine_turn : MachineFields → Turn
machine_turn m = turn_given_end m.ended m.state

-- the machine after its turn
unfoldable pub machine_after : MachineFields → MachineFields
machine_after m = after_given_end m.ended m.state

-- the machine makes this turn, and is `later` after it
abbrev pub MachineTurns : MachineFields → Turn → MachineFields → Type 0
MachineTurns before turn later = (turn ≡ machine_turn before) × (later ≡ machine_after before)

-- what going back answers: a machine cannot go back, so the answer is Unable and nothing changes
abbrev pub MachineWent : MachineFields → ℕ → BackAnswer → MachineFields → Type 0
MachineWent before n answer later = IsUnable before answer later

-- going back changes nothing unless it answers Done
pub machine_stays :
    (before : MachineFields) (n : ℕ) (answer : BackAnswer) (after : MachineFields)
    → MachineWent before n answer after → HasGoneBack answer ⊎ (after ≡ before)
machine_stays before n answer after went = inr went.1

no_service : (ended : Option End) (s : State (List ℕ)) → IsService (turn_given_end ended s) → ⊥
no_service None s h = h
no_service (Some e) s h = h

turn_no_service : (m : MachineFields) → IsService (machine_turn m) → ⊥
unfolding machine_turn
turn_no_service m h = no_service m.ended m.state h

-- a service is not followed by another, since a machine has no services
pub machine_apart :
    (first second third : MachineFields) (one two : Turn)
    → MachineTurns first one second → MachineTurns second two third
    → IsService one → IsService two → ⊥
machine_apart first second third one two h k service other =
    turn_no_service first (subst IsService h.0 service)

no_step : (outcome : Outcome) (s : State (List ℕ))
    → IsHalted outcome → IsStep (turn_given_end (end_by_outcome outcome) s) → ⊥
no_step Next s not step = not
no_step (Faulted fault) s not step = step
no_step (Stopped stop) s not step = step

no_step_after :
    (ended : Option End) (s : State (List ℕ))
    → PrecludesStep (turn_given_end ended s)
    → IsStep (turn_given_end (after_given_end ended s).ended (after_given_end ended s).state) → ⊥
no_step_after None s interrupts step =
    no_step (record_of core_store s).outcome (state_after core_store s) interrupts step
no_step_after (Some e) s interrupts step = interrupts

turn_interrupted :
    (m : MachineFields)
    → PrecludesStep (machine_turn m) → IsStep (machine_turn (machine_after m)) → ⊥
unfolding machine_turn machine_after
turn_interrupted m interrupts step = no_step_after m.ended m.state interrupts step

-- the turn after one that interrupts is not a step
pub machine_interrupted :
    (first second third : MachineFields) (one two : Turn)
    → MachineTurns first one second → MachineTurns second two third
    → PrecludesStep one → IsStep two → ⊥
machine_interrupted first second third one two h k interrupts step =
    turn_interrupted first (subst PrecludesStep h.0 interrupts)
    (subst IsStep (k.0 ∙ ap machine_turn h.1) step)

-- the turn of a state is one that the machine may take
pub machine_possible :
    (m : MachineFields) → MachineTurns m (machine_turn m) (machine_after m)
machine_possible m = (refl, refl)

kept_by :
    (ended : Option End) (s : State (List ℕ))
    → IsStepOrEnd (after_given_end ended s ≡ record { state = s; ended = ended })
    (turn_given_end ended s)
kept_by None s = tt
kept_by (Some e) s = refl

-- a turn is a step, or an end that changes nothing
pub machine_kept :
    (m : MachineFields) → IsStepOrEnd (machine_after m ≡ m) (machine_turn m)
unfolding machine_turn machine_after
machine_kept m = kept_by m.ended m.state

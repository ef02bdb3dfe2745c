-- What a session is held over: the machine of an image, which can go back, or a booted system.
use Rattle.std.specs.Prelude.{ℕ, List, None}
use Rattle.m36_model.specs.Core.{core_store}
use Rattle.m36_model.specs.Sight.{content}
use Rattle.m36_model.specs.Store.{State}
use Rattle.m36_step.specs.MachineFields.{MachineFields}
use Rattle.m36_step.specs.MachineTurn.{machine_turn, machine_after}
use Rattle.m36_back.specs.History.{History, current_state, PastTurns, MayGoBack}
use Rattle.m36_super.specs.SuperFields.{SuperFields}
use Rattle.m36_super.specs.SuperTurn.{SuperTurns, SuperBack, super_content}
use Rattle.m36_debug.specs.Session.{MachineRelations, machine_relations}

-- ---- the machine of an image

-- the machine at the start of a session
abbrev pub new_history : State (List ℕ) → History MachineFields
new_history state = record { first = record { state = state; ended = None }; taken = 0 }

-- what a session uses of the machine of an image: its registers and words, its turns, and how it
-- goes back
abbrev pub past_turning : MachineRelations (History MachineFields)
past_turning =
    machine_relations (λ h. (current_state machine_after h).state.regs)
    (λ h seg word. content core_store (current_state machine_after h).state seg word)
    (λ before turn later. PastTurns machine_turn machine_after before turn later)
    (λ before n answer later. MayGoBack before n answer later)

-- ---- a booted system, which never goes back

-- what a session uses of a booted system
abbrev pub super_turning : MachineRelations SuperFields
super_turning =
    machine_relations (λ s. s.regs) super_content
    (λ before turn later. SuperTurns before turn later)
    (λ before n answer later. SuperBack before n answer later)

-- Properties of the answers of a turn and of going back.
use Rattle.std.specs.Prelude.{◌≡◌, Bool, true, false, T, Result, Ok, Err}
use Rattle.m36_word.specs.declared.pair.Pair.{Pair}
use Rattle.m36_model.specs.declared.endings.LinkCode.{LinkCode}
use Rattle.m36_model.specs.declared.outcome.Outcome.{Outcome}
use Rattle.m36_model.specs.declared.outcome.Outcome.TheVariants.{Next, Faulted, Stopped}
use Rattle.m36_step.specs.declared.turns.Turn.{Turn}
use Rattle.m36_step.specs.declared.turns.Turn.TheVariants.{Stepped, Linked, Console, Ended, Full}
use Rattle.m36_step.specs.declared.turns.Turn.TheVariants.{NoMemory}
use Rattle.m36_step.specs.declared.turns.BackAnswer.{BackAnswer}
use Rattle.m36_step.specs.declared.turns.BackAnswer.TheVariants as back

-- whether a turn is a link service or a console service
abbrev pub is_service : Turn → Bool
is_service (Stepped told) = false
is_service (Linked note) = true
is_service (Console text) = true
is_service (Ended end) = false
is_service Full = false
is_service NoMemory = false

-- the turn is a service
abbrev pub IsService : Turn → Type 0
IsService turn = T (is_service turn)

-- a step, or an end for which `Same` holds
abbrev pub IsStepOrEnd : Type 0 → Turn → Type 0
IsStepOrEnd Same (Stepped told) = Unit {0}
IsStepOrEnd Same (Linked note) = ⊥
IsStepOrEnd Same (Console text) = ⊥
IsStepOrEnd Same (Ended end) = Same
IsStepOrEnd Same Full = ⊥
IsStepOrEnd Same NoMemory = ⊥

-- a step whose outcome is Next, so that another step follows
abbrev pub IsStepWithNext : Turn → Type 0
IsStepWithNext (Stepped told) = told.outcome ≡ Next
IsStepWithNext (Linked note) = ⊥
IsStepWithNext (Console text) = ⊥
IsStepWithNext (Ended end) = ⊥
IsStepWithNext Full = ⊥
IsStepWithNext NoMemory = ⊥

-- a step
abbrev pub IsStep : Turn → Type 0
IsStep (Stepped told) = Unit {0}
IsStep (Linked note) = ⊥
IsStep (Console text) = ⊥
IsStep (Ended end) = ⊥
IsStep Full = ⊥
IsStep NoMemory = ⊥

-- the outcome is a fault or a stop
abbrev pub IsHalted : Outcome → Type 0
IsHalted Next = ⊥
IsHalted (Faulted fault) = Unit {0}
IsHalted (Stopped stop) = Unit {0}

-- the result of a link service that refused the link
abbrev pub IsRefused : Result Pair LinkCode → Type 0
IsRefused (Ok pair) = ⊥
IsRefused (Err code) = Unit {0}

-- A step whose outcome is not Next, or a link service that refused the link. The turn after it is
-- not a step.
abbrev pub PrecludesStep : Turn → Type 0
PrecludesStep (Stepped told) = IsHalted told.outcome
PrecludesStep (Linked note) = IsRefused note.answer
PrecludesStep (Console text) = ⊥
PrecludesStep (Ended end) = ⊥
PrecludesStep Full = ⊥
PrecludesStep NoMemory = ⊥

-- the machine answers that it cannot go back, and is unchanged
abbrev pub IsUnable : {S : Type 0} → S → BackAnswer → S → Type 0
IsUnable before answer later = (answer ≡ back.Unable) × (later ≡ before)

-- the machine has gone back
abbrev pub HasGoneBack : BackAnswer → Type 0
HasGoneBack back.Done = Unit {0}
HasGoneBack (back.Before taken) = ⊥
HasGoneBack back.Unable = ⊥
HasGoneBack back.NoMemory = ⊥

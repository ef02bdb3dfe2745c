-- A step with its service, and a service alone.
use Rattle.std.proofs.Common.{◌≡◌, ℕ, List, Bool, true, false, Result, Ok, Err, sym, ap, subst, ◌∙◌}
use Rattle.m36_model.specs.Fields.{AtFields}
use Rattle.m36_model.specs.declared.endings.End.{End}
use Rattle.m36_model.specs.declared.outcome.Fault.{Fault}
use Rattle.m36_link.specs.Fields.{SnapFields}
use Rattle.m36_link.specs.Snap.{RefusedFields, snap_of}
use Rattle.m36_isol.specs.PageServices.{PagedState}
use Rattle.m36_step.specs.Answers.{IsStepWithNext}
use Rattle.m36_step.specs.LinkNoteFields.{LinkNoteFields}
use Rattle.m36_step.specs.declared.turns.Turn.{Turn}
use Rattle.m36_step.specs.declared.turns.Turn.TheVariants.{Stepped, Linked, Console, Ended, Full, NoMemory}
use Rattle.m36_super.specs.Library.{Library}
use Rattle.m36_super.specs.declared.next_event.NextEvent.{NextEvent}
use Rattle.m36_super.specs.declared.next_event.NextEvent.TheVariants.{Step, Link, Print, Over}
use Rattle.m36_super.specs.NextEvent.{event_after_outcome, loaded_after}
use Rattle.m36_super.specs.BootedRun.{Booted, record_of_state, IsStepTo, IsStepTurn, IsLinkTurn, IsConsoleTurn, IsTurnBy, IsTurn}
use Rattle.m36_super.specs.SuperFields.{SuperFields, booted_of}
use Rattle.m36_super.specs.SuperTurn.{SuperTurns, IsNoService, link_quiet}

-- ---- which turns there are

abbrev pub IsStep : Turn → Type 0
IsStep (Stepped told) = Unit {0}
IsStep (Linked note) = ⊥
IsStep (Console text) = ⊥
IsStep (Ended e) = ⊥
IsStep Full = ⊥
IsStep NoMemory = ⊥

abbrev pub IsLink : Turn → Type 0
IsLink (Stepped told) = ⊥
IsLink (Linked note) = Unit {0}
IsLink (Console text) = ⊥
IsLink (Ended e) = ⊥
IsLink Full = ⊥
IsLink NoMemory = Unit {0}

abbrev pub IsPrint : Turn → Type 0
IsPrint (Stepped told) = ⊥
IsPrint (Linked note) = ⊥
IsPrint (Console text) = Unit {0}
IsPrint (Ended e) = Unit {0}
IsPrint Full = ⊥
IsPrint NoMemory = ⊥

pub step_is :
    (loaded : Bool) (frames : ℕ) (before : Booted) (turn : Turn) (after : Booted)
    → IsStepTurn loaded frames before turn after → IsStep turn
step_is false frames before turn after is = subst IsStep (sym is.takes.told) tt
step_is true frames before turn after is = subst IsStep (sym is.told) tt

pub link_is :
    (answer : Result SnapFields RefusedFields) (frames : ℕ) (at : AtFields) (before : Booted) (turn : Turn) (after : Booted)
    → IsLinkTurn answer frames at before turn after → IsLink turn
link_is (Ok s) frames at before (Stepped told) after is = subst IsLink (sym is.told) tt
link_is (Ok s) frames at before (Linked note) after is = tt
link_is (Ok s) frames at before (Console text) after is = subst IsLink (sym is.told) tt
link_is (Ok s) frames at before (Ended e) after is = subst IsLink (sym is.told) tt
link_is (Ok s) frames at before Full after is = subst IsLink (sym is.told) tt
link_is (Ok s) frames at before NoMemory after is = tt
link_is (Err why) frames at before (Stepped told) after is = subst IsLink (sym is.0) tt
link_is (Err why) frames at before (Linked note) after is = tt
link_is (Err why) frames at before (Console text) after is = subst IsLink (sym is.0) tt
link_is (Err why) frames at before (Ended e) after is = subst IsLink (sym is.0) tt
link_is (Err why) frames at before Full after is = subst IsLink (sym is.0) tt
link_is (Err why) frames at before NoMemory after is = tt

print_is :
    (many : Bool) (text : Result (List ℕ) Fault) (before : Booted) (turn : Turn) (after : Booted)
    → IsConsoleTurn many text before turn after → IsPrint turn
print_is true text before turn after is = subst IsPrint (sym is.0) tt
print_is false (Err f) before turn after is = subst IsPrint (sym is.0) tt
print_is false (Ok text) before turn after is = subst IsPrint (sym is.0) tt

by_next_event :
    (lib : Library) (before after : SuperFields) (turn : Turn) (next_event : NextEvent)
    → before.next_event ≡ next_event → IsTurn lib (booted_of before) turn (booted_of after)
    → IsTurnBy next_event lib (booted_of before) turn (booted_of after)
unfolding IsTurn
by_next_event lib before after turn next_event is turns =
    subst (λ c. IsTurnBy c lib (booted_of before) turn (booted_of after)) is turns

pub turn_prints :
    (before after : SuperFields) (turn : Turn)
    → before.next_event ≡ Print → SuperTurns before turn after → IsPrint turn
turn_prints before after turn is turns =
    print_is _ _ (booted_of before) turn (booted_of after)
    (by_next_event before.lib before after turn Print is turns.0)

-- ---- what is next after them

pub link_behind :
    (before after : SuperFields) (note : LinkNoteFields) (at : AtFields)
    → before.next_event ≡ Link at → SuperTurns before (Linked note) after → IsNoService after.next_event
link_behind before after note at is turns =
    link_quiet _ before.lib.catalog.frames at (booted_of before) (Linked note) (booted_of after)
    (by_next_event before.lib before after (Linked note) (Link at) is turns.0) tt

abbrev IsUnended : Turn → Type 0
IsUnended (Stepped told) = Unit {0}
IsUnended (Linked note) = Unit {0}
IsUnended (Console text) = Unit {0}
IsUnended (Ended e) = ⊥
IsUnended Full = Unit {0}
IsUnended NoMemory = Unit {0}

behind_print :
    (many : Bool) (text : Result (List ℕ) Fault) (before : Booted) (told : List ℕ) (after : Booted)
    → IsConsoleTurn many text before (Console told) after → after.next_event ≡ Step
behind_print true text before told after is = absurd (subst IsUnended is.0 tt)
behind_print false (Err f) before told after is = absurd (subst IsUnended is.0 tt)
behind_print false (Ok text) before told after is = ap (λ (r : Booted). r.next_event) is.1

pub print_behind :
    (before after : SuperFields) (told : List ℕ)
    → before.next_event ≡ Print → SuperTurns before (Console told) after → after.next_event ≡ Step
print_behind before after told is turns =
    behind_print _ _ (booted_of before) told (booted_of after)
    (by_next_event before.lib before after (Console told) Print is turns.0)

step_to : (s : PagedState) (before : Booted) (turn : Turn) (after : Booted) → IsStepTo s before turn after → IsStepWithNext turn → after.next_event ≡ Step
step_to s before turn after is on =
    ap (λ (r : Booted). r.next_event) is.after_is
    ∙ ap (event_after_outcome (loaded_after before.loaded (record_of_state s)) (record_of_state s).ppr.prr) (subst IsStepWithNext is.told on)

behind_step :
    (loaded : Bool) (frames : ℕ) (before : Booted) (turn : Turn) (after : Booted)
    → IsStepTurn loaded frames before turn after → IsStepWithNext turn → after.next_event ≡ Step
behind_step false frames before turn after is on = step_to is.last before turn after is.takes on
behind_step true frames before turn after is on = step_to before.state before turn after is on

pub step_behind :
    (lib : Library) (before : Booted) (turn : Turn) (after : Booted)
    → before.next_event ≡ Step → IsTurn lib before turn after → IsStepWithNext turn → after.next_event ≡ Step
unfolding IsTurn
step_behind lib before turn after is turns on =
    behind_step before.loaded lib.catalog.frames before turn after (subst (λ c. IsTurnBy c lib before turn after) is turns) on

-- ---- the registers after a turn that ends the run

print_leaves :
    (many : Bool) (text : Result (List ℕ) Fault) (before : Booted) (e : End) (after : Booted)
    → IsConsoleTurn many text before (Ended e) after → after.state.regs ≡ before.state.regs
print_leaves true text before e after is = ap (λ (r : Booted). r.state.regs) is.1
print_leaves false (Err f) before e after is = ap (λ (r : Booted). r.state.regs) is.1
print_leaves false (Ok text) before e after is = absurd (subst IsUnended (sym is.0) tt)

end_leaves :
    (next_event : NextEvent) (lib : Library) (before : Booted) (e : End) (after : Booted)
    → IsTurnBy next_event lib before (Ended e) after → after.state.regs ≡ before.state.regs
end_leaves Step lib before e after is = absurd (step_is before.loaded lib.catalog.frames before (Ended e) after is)
end_leaves (Link at) lib before e after is =
    absurd (link_is (snap_of before.known lib.catalog lib.files at) lib.catalog.frames at before (Ended e) after is)
end_leaves Print lib before e after is = print_leaves _ _ before e after is
end_leaves (Over told) lib before e after is = ap (λ (r : Booted). r.state.regs) is.1

pub ended_leaves :
    (lib : Library) (before : Booted) (e : End) (after : Booted)
    → IsTurn lib before (Ended e) after → after.state.regs ≡ before.state.regs
unfolding IsTurn
ended_leaves lib before e after is = end_leaves before.next_event lib before e after is

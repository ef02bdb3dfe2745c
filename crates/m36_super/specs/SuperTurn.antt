-- The turns of a booted system are those of its booted run; its catalog and files do not change.
use Rattle.std.specs.Prelude.{◌≡◌, ℕ, ◌⊎◌, Bool, true, false, Option, nat_eq, ◌&&◌}
use Rattle.m36_model.specs.Faults.{master_mode_entry, fault_tag_2}
use Rattle.m36_model.specs.Core.{core_store}
use Rattle.m36_model.specs.Flat.{flat_store}
use Rattle.m36_model.specs.Residence.{flat_of}
use Rattle.m36_model.specs.Sight.{content_in}
use Rattle.std.specs.Prelude.{List, Result, Ok, Err}
use Rattle.std.proofs.Common.{inr, sym, subst}
use Rattle.m36_model.specs.Fields.{AtFields}
use Rattle.m36_model.specs.declared.outcome.Fault.{Fault}
use Rattle.m36_model.specs.declared.outcome.Outcome.{Outcome}
use Rattle.m36_model.specs.declared.outcome.Outcome.TheVariants.{Next, Faulted, Stopped}
use Rattle.m36_link.specs.Fields.{SnapFields}
use Rattle.m36_link.specs.Snap.{RefusedFields}
use Rattle.m36_step.specs.Answers.{HasGoneBack, IsService, IsStep, IsHalted, IsUnable}
use Rattle.m36_step.specs.Answers.{PrecludesStep}
use Rattle.m36_step.specs.declared.turns.Turn.{Turn}
use Rattle.m36_step.specs.declared.turns.Turn.TheVariants.{Stepped, Linked, Console, Ended, Full}
use Rattle.m36_step.specs.declared.turns.Turn.TheVariants.{NoMemory}
use Rattle.m36_step.specs.declared.turns.BackAnswer.{BackAnswer}
use Rattle.m36_super.specs.NextEvent.{NextEvent, Step, Link, Print, Over, loaded_after}
use Rattle.m36_super.specs.NextEvent.{event_after_known_fault, event_after_fault}
use Rattle.m36_super.specs.NextEvent.{event_after_outcome}
use Rattle.m36_super.specs.Library.{Library}
use Rattle.m36_super.specs.BootedRun.{Booted, IsStepTurn, IsLinkTurn, IsConsoleTurn, IsTurnBy}
use Rattle.m36_super.specs.BootedRun.{IsTurn, IsStepTo, record_of_state}
use Rattle.m36_isol.specs.PageServices.{PagedState}
use Rattle.m36_super.specs.SuperFields.{SuperFields, booted_of}

-- the system makes this turn, and is `later` after it
abbrev pub SuperTurns : SuperFields → Turn → SuperFields → Type 0
SuperTurns before turn later =
    IsTurn before.lib (booted_of before) turn (booted_of later) × (later.lib ≡ before.lib)

-- A booted system cannot go back.
abbrev pub SuperBack : SuperFields → ℕ → BackAnswer → SuperFields → Type 0
SuperBack before n answer later = IsUnable before answer later

-- The content of a word: of the flat memory until an LDBR has been executed, and of core after
-- that.
abbrev pub content_by : Bool → SuperFields → ℕ → ℕ → Option ℕ
content_by false s seg w =
    content_in flat_store (flat_of (booted_of s).state.memory) s.regs.dbr seg w
content_by true s seg w = content_in core_store s.core s.regs.dbr seg w

-- the content of a word of a segment of a system; None if it has no place
unfoldable pub super_content : SuperFields → ℕ → ℕ → Option ℕ
super_content s seg w = content_by s.loaded s seg w

-- ---- going back changes nothing unless it answers Done, and a service is not followed by another

-- going back changes nothing unless it answers Done
pub super_stays :
    (before : SuperFields) (n : ℕ) (answer : BackAnswer) (after : SuperFields)
    → SuperBack before n answer after → HasGoneBack answer ⊎ (after ≡ before)
super_stays before n answer after went = inr went.1

-- the next turn is not a service
abbrev pub IsNoService : NextEvent → Type 0
IsNoService Step = Unit {0}
IsNoService (Link at) = ⊥
IsNoService Print = ⊥
IsNoService (Over e) = Unit {0}

step_no_service :
    (loaded : Bool) (frames : ℕ) (before : Booted) (turn : Turn) (after : Booted)
    → IsStepTurn loaded frames before turn after → IsService turn → ⊥
step_no_service false frames before turn after h service = subst IsService h.takes.told service
step_no_service true frames before turn after h service = subst IsService h.told service

-- after a link service the next turn is not a service
pub link_quiet :
    (answer : Result SnapFields RefusedFields) (frames : ℕ) (at : AtFields) (before : Booted)
    (turn : Turn) (after : Booted) → IsLinkTurn answer frames at before turn after → IsService turn
    → IsNoService after.next_event
link_quiet (Ok s) frames at before (Linked note) after h service =
    subst IsNoService (sym h.next_event) tt
link_quiet (Ok s) frames at before (Console text) after h service =
    subst IsNoService (sym h.next_event) tt
link_quiet (Ok s) frames at before (Stepped told) after h service = absurd service
link_quiet (Ok s) frames at before (Ended e) after h service = absurd service
link_quiet (Ok s) frames at before Full after h service = absurd service
link_quiet (Ok s) frames at before NoMemory after h service = absurd service
link_quiet (Err why) frames at before (Linked note) after h service =
    subst (λ (r : Booted). IsNoService r.next_event) (sym h.1) tt
link_quiet (Err why) frames at before (Console text) after h service =
    subst (λ (r : Booted). IsNoService r.next_event) (sym h.1) tt
link_quiet (Err why) frames at before (Stepped told) after h service = absurd service
link_quiet (Err why) frames at before (Ended e) after h service = absurd service
link_quiet (Err why) frames at before Full after h service = absurd service
link_quiet (Err why) frames at before NoMemory after h service = absurd service

console_quiet :
    (b : Bool) (text : Result (List ℕ) Fault) (before : Booted) (turn : Turn) (after : Booted)
    → IsConsoleTurn b text before turn after → IsService turn → IsNoService after.next_event
console_quiet true text before turn after h service = absurd (subst IsService h.0 service)
console_quiet false (Err f) before turn after h service = absurd (subst IsService h.0 service)
console_quiet false (Ok text) before turn after h service =
    subst (λ (r : Booted). IsNoService r.next_event) (sym h.1) tt

after_service :
    (next_event : NextEvent) (lib : Library) (before : Booted) (turn : Turn) (after : Booted)
    → IsTurnBy next_event lib before turn after → IsService turn → IsNoService after.next_event
after_service Step lib before turn after h service =
    absurd (step_no_service before.loaded lib.catalog.frames before turn after h service)
after_service (Link at) lib before turn after h service =
    link_quiet _ lib.catalog.frames at before turn after h service
after_service Print lib before turn after h service = console_quiet _ _ before turn after h service
after_service (Over e) lib before turn after h service = absurd (subst IsService h.0 service)

no_service :
    (next_event : NextEvent) (lib : Library) (before : Booted) (turn : Turn) (after : Booted)
    → IsTurnBy next_event lib before turn after → IsNoService next_event → IsService turn → ⊥
no_service Step lib before turn after h quiet service =
    step_no_service before.loaded lib.catalog.frames before turn after h service
no_service (Link at) lib before turn after h quiet service = quiet
no_service Print lib before turn after h quiet service = quiet
no_service (Over e) lib before turn after h quiet service = subst IsService h.0 service

-- a service is not followed by another
pub super_apart :
    (first second third : SuperFields) (one two : Turn)
    → SuperTurns first one second → SuperTurns second two third → IsService one → IsService two → ⊥
unfolding IsTurn
super_apart first second third one two h k service other =
    no_service second.next_event second.lib (booted_of second) two (booted_of third) k.0
    (after_service first.next_event first.lib (booted_of first) one (booted_of second) h.0 service)
    other

-- ---- a turn that interrupts is not followed by a step

-- the next turn is not a step
abbrev pub IsNoStep : NextEvent → Type 0
IsNoStep Step = ⊥
IsNoStep (Link at) = Unit {0}
IsNoStep Print = Unit {0}
IsNoStep (Over e) = Unit {0}

frame_in_pager :
    (link console : Bool) (f : Fault) → IsNoStep (event_after_known_fault link console f)
frame_in_pager true console f = tt
frame_in_pager false true f = tt
frame_in_pager false false f = tt

held_on : (loaded : Bool) (ring : ℕ) (f : Fault) → IsNoStep (event_after_fault loaded ring f)
held_on true ring f = tt
held_on false ring f =
    frame_in_pager (nat_eq f.number fault_tag_2)
    (nat_eq f.number master_mode_entry && nat_eq ring 0) f

held_after :
    (loaded : Bool) (ring : ℕ) (outcome : Outcome)
    → IsHalted outcome → IsNoStep (event_after_outcome loaded ring outcome)
held_after loaded ring Next not = absurd not
held_after loaded ring (Faulted f) not = held_on loaded ring f
held_after loaded ring (Stopped s) not = tt

takes_held :
    (s : PagedState) (before : Booted) (turn : Turn) (after : Booted)
    → IsStepTo s before turn after → PrecludesStep turn → IsNoStep after.next_event
takes_held s before turn after h interrupts =
    subst (λ (r : Booted). IsNoStep r.next_event) (sym h.after_is)
    (held_after (loaded_after before.loaded (record_of_state s)) (record_of_state s).ppr.prr
    (record_of_state s).outcome
    (subst PrecludesStep h.told interrupts))

step_held :
    (loaded : Bool) (frames : ℕ) (before : Booted) (turn : Turn) (after : Booted)
    → IsStepTurn loaded frames before turn after → PrecludesStep turn → IsNoStep after.next_event
step_held false frames before turn after h interrupts =
    takes_held h.last before turn after h.takes interrupts
step_held true frames before turn after h interrupts =
    takes_held before.state before turn after h interrupts

link_held :
    (answer : Result SnapFields RefusedFields) (frames : ℕ) (at : AtFields) (before : Booted)
    (turn : Turn) (after : Booted)
    → IsLinkTurn answer frames at before turn after → PrecludesStep turn → IsNoStep after.next_event
link_held (Ok s) frames at before (Linked note) after h interrupts =
    absurd (subst PrecludesStep h.told interrupts)
link_held (Ok s) frames at before (Stepped told) after h interrupts =
    absurd (subst PrecludesStep h.told interrupts)
link_held (Ok s) frames at before (Console text) after h interrupts = absurd interrupts
link_held (Ok s) frames at before (Ended e) after h interrupts = absurd interrupts
link_held (Ok s) frames at before Full after h interrupts = absurd interrupts
link_held (Ok s) frames at before NoMemory after h interrupts = absurd interrupts
link_held (Err why) frames at before (Linked note) after h interrupts =
    subst (λ (r : Booted). IsNoStep r.next_event) (sym h.1) tt
link_held (Err why) frames at before (Stepped told) after h interrupts =
    subst (λ (r : Booted). IsNoStep r.next_event) (sym h.1) tt
link_held (Err why) frames at before (Console text) after h interrupts = absurd interrupts
link_held (Err why) frames at before (Ended e) after h interrupts = absurd interrupts
link_held (Err why) frames at before Full after h interrupts = absurd interrupts
link_held (Err why) frames at before NoMemory after h interrupts = absurd interrupts

console_no_interrupt :
    (b : Bool) (text : Result (List ℕ) Fault) (before : Booted) (turn : Turn) (after : Booted)
    → IsConsoleTurn b text before turn after → PrecludesStep turn → ⊥
console_no_interrupt true text before turn after h interrupts = subst PrecludesStep h.0 interrupts
console_no_interrupt false (Err f) before turn after h interrupts =
    subst PrecludesStep h.0 interrupts
console_no_interrupt false (Ok text) before turn after h interrupts =
    subst PrecludesStep h.0 interrupts

after_interrupt :
    (next_event : NextEvent) (lib : Library) (before : Booted) (turn : Turn) (after : Booted)
    → IsTurnBy next_event lib before turn after → PrecludesStep turn → IsNoStep after.next_event
after_interrupt Step lib before turn after h interrupts =
    step_held before.loaded lib.catalog.frames before turn after h interrupts
after_interrupt (Link at) lib before turn after h interrupts =
    link_held _ lib.catalog.frames at before turn after h interrupts
after_interrupt Print lib before turn after h interrupts =
    absurd (console_no_interrupt _ _ before turn after h interrupts)
after_interrupt (Over e) lib before turn after h interrupts =
    absurd (subst PrecludesStep h.0 interrupts)

link_no_step :
    (answer : Result SnapFields RefusedFields) (frames : ℕ) (at : AtFields) (before : Booted)
    (turn : Turn) (after : Booted)
    → IsLinkTurn answer frames at before turn after → IsStep turn → ⊥
link_no_step (Ok s) frames at before (Stepped told) after h step = subst IsStep h.told step
link_no_step (Ok s) frames at before (Linked note) after h step = step
link_no_step (Ok s) frames at before (Console text) after h step = step
link_no_step (Ok s) frames at before (Ended e) after h step = step
link_no_step (Ok s) frames at before Full after h step = step
link_no_step (Ok s) frames at before NoMemory after h step = step
link_no_step (Err why) frames at before (Stepped told) after h step = subst IsStep h.0 step
link_no_step (Err why) frames at before (Linked note) after h step = step
link_no_step (Err why) frames at before (Console text) after h step = step
link_no_step (Err why) frames at before (Ended e) after h step = step
link_no_step (Err why) frames at before Full after h step = step
link_no_step (Err why) frames at before NoMemory after h step = step

console_no_step :
    (b : Bool) (text : Result (List ℕ) Fault) (before : Booted) (turn : Turn) (after : Booted)
    → IsConsoleTurn b text before turn after → IsStep turn → ⊥
console_no_step true text before turn after h step = subst IsStep h.0 step
console_no_step false (Err f) before turn after h step = subst IsStep h.0 step
console_no_step false (Ok text) before turn after h step = subst IsStep h.0 step

no_step :
    (next_event : NextEvent) (lib : Library) (before : Booted) (turn : Turn) (after : Booted)
    → IsTurnBy next_event lib before turn after → IsNoStep next_event → IsStep turn → ⊥
no_step Step lib before turn after h held step = held
no_step (Link at) lib before turn after h held step =
    link_no_step _ lib.catalog.frames at before turn after h step
no_step Print lib before turn after h held step = console_no_step _ _ before turn after h step
no_step (Over e) lib before turn after h held step = subst IsStep h.0 step

-- the turn after one that interrupts is not a step
pub super_interrupted :
    (first second third : SuperFields) (one two : Turn)
    → SuperTurns first one second → SuperTurns second two third → PrecludesStep one → IsStep two → ⊥
unfolding IsTurn
super_interrupted first second third one two h k interrupts step =
    no_step second.next_event second.lib (booted_of second) two (booted_of third) k.0
    (after_interrupt first.next_event first.lib (booted_of first) one (booted_of second) h.0 interrupts)
    step

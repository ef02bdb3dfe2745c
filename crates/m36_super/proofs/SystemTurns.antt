-- The turns of a booted system, and what holds after each.
use Rattle.std.proofs.Common.{◌≡◌, refl, sym, ◌∙◌, ap, subst}
use Rattle.std.specs.Prelude.{ℕ, Bool, true, false, length, List, Result, Ok, Err}
use Rattle.m36_model.specs.declared.endings.End.{End}
use Rattle.m36_model.specs.declared.endings.End.TheVariants as end
use Rattle.m36_model.specs.Fields.{AtFields}
use Rattle.m36_model.specs.Residence.{flat_of}
use Rattle.m36_model.specs.Results.{advanced}
use Rattle.m36_model.specs.declared.outcome.Fault.{Fault}
use Rattle.m36_model.specs.declared.outcome.Outcome.{Outcome}
use Rattle.m36_model.specs.declared.outcome.Outcome.TheVariants.{Next, Faulted, Stopped}
use Rattle.m36_link.specs.Snap.{snap_of}
use Rattle.m36_step.specs.declared.turns.Turn.{Turn}
use Rattle.m36_step.specs.declared.turns.Turn.TheVariants.{Console, Ended}
use Rattle.m36_super.specs.Library.{Library}
use Rattle.m36_super.specs.NextEvent.{NextEvent, Step, Link, Print, Over, event_after_known_fault, event_after_fault, event_after_outcome}
use Rattle.m36_super.specs.Services.{asks_too_much, console_text}
use Rattle.m36_super.specs.BootedRun.{Booted, IsStepTurn, IsLinkTurn, IsConsoleTurn, IsTurnBy, IsTurn}
use Rattle.m36_super.specs.SuperFields.{SuperFields, booted_of, NoServiceAfterLdbr, IsRunning}
use Rattle.m36_super.proofs.Turns.{moved_dbr}
use Rattle.m36_page.specs.Fields.{PagerFields}
use Rattle.m36_model.specs.Store.{State}

-- ---- the next turn is not a service once an LDBR has been executed

due_in : (a b : Bool) (f : Fault) → NoServiceAfterLdbr (event_after_known_fault a b f) false
due_in true b f = refl
due_in false true f = refl
due_in false false f = tt

due_on : (loaded : Bool) (ring : ℕ) (f : Fault) → NoServiceAfterLdbr (event_after_fault loaded ring f) loaded
due_on true ring f = tt
due_on false ring f = due_in _ _ f

due_by : (loaded : Bool) (ring : ℕ) (outcome : Outcome) → NoServiceAfterLdbr (event_after_outcome loaded ring outcome) loaded
due_by loaded ring Next = tt
due_by loaded ring (Faulted f) = due_on loaded ring f
due_by loaded ring (Stopped s) = tt

pub due_after : (loaded : Bool) (ring : ℕ) (outcome : Outcome) (next : NextEvent) → next ≡ event_after_outcome loaded ring outcome → NoServiceAfterLdbr next loaded
due_after loaded ring outcome next e =
    subst (λ (c : NextEvent). NoServiceAfterLdbr c loaded) (sym e) (due_by loaded ring outcome)

pub due_at : (loaded : Bool) (next_event : NextEvent) (at : AtFields) → next_event ≡ Link at → NoServiceAfterLdbr next_event loaded → loaded ≡ false
due_at loaded next_event at e due = subst (λ (c : NextEvent). NoServiceAfterLdbr c loaded) e due

pub due_print : (loaded : Bool) (next_event : NextEvent) → next_event ≡ Print → NoServiceAfterLdbr next_event loaded → loaded ≡ false
due_print loaded next_event e due = subst (λ (c : NextEvent). NoServiceAfterLdbr c loaded) e due

-- ---- turns, by what the next turn is

turn_by : (lib : Library) (before : Booted) (turn : Turn) (after : Booted) (next_event : NextEvent) → before.next_event ≡ next_event → IsTurnBy next_event lib before turn after → IsTurn lib before turn after
unfolding IsTurn
turn_by lib before turn after next_event e h =
    subst (λ (c : NextEvent). IsTurnBy c lib before turn after) (sym e) h

pub step_is_turn : (lib : Library) (before : Booted) (turn : Turn) (after : Booted) (frames : ℕ) → before.next_event ≡ Step → frames ≡ lib.catalog.frames → IsStepTurn before.loaded frames before turn after → IsTurn lib before turn after
step_is_turn lib before turn after frames e same h =
    turn_by lib before turn after Step e (subst (λ (n : ℕ). IsStepTurn before.loaded n before turn after) same h)

pub link_is_turn : (lib : Library) (before : Booted) (turn : Turn) (after : Booted) (frames : ℕ) (at : AtFields) (files : List (List ℕ)) → before.next_event ≡ Link at → frames ≡ lib.catalog.frames → files ≡ lib.files → IsLinkTurn (snap_of before.known lib.catalog files at) frames at before turn after → IsTurn lib before turn after
link_is_turn lib before turn after frames at files e same all h =
    turn_by lib before turn after (Link at) e (subst (λ (n : ℕ). IsLinkTurn (snap_of before.known lib.catalog lib.files at) n at before turn after) same (subst (λ (f : List (List ℕ)). IsLinkTurn (snap_of before.known lib.catalog f at) frames at before turn after) all h))

pub link_turns : (now inside later : SuperFields) (turn : Turn) (at : AtFields) (frames : ℕ) (files : List (List ℕ)) → inside ≡ now → now.next_event ≡ Link at → frames ≡ inside.lib.catalog.frames → files ≡ inside.lib.files → later.lib ≡ inside.lib → IsLinkTurn (snap_of inside.known inside.lib.catalog files at) frames at (booted_of inside) turn (booted_of later) → IsTurn now.lib (booted_of now) turn (booted_of later) × (later.lib ≡ now.lib)
link_turns now inside later turn at frames files same e count all kept h =
    let next_event : inside.next_event ≡ Link at = ap (λ (s : SuperFields). s.next_event) same ∙ e in
    let P : SuperFields → Type 0 = λ s. IsTurn s.lib (booted_of s) turn (booted_of later) × (later.lib ≡ s.lib) in
    subst P same (link_is_turn inside.lib (booted_of inside) turn (booted_of later) frames at files next_event count all h, kept)

pub print_is_turn : (lib : Library) (before : Booted) (turn : Turn) (after : Booted) → before.next_event ≡ Print → IsConsoleTurn (asks_too_much before.state.regs) (console_text before.state.regs (flat_of before.state.memory)) before turn after → IsTurn lib before turn after
print_is_turn lib before turn after e h = turn_by lib before turn after Print e h

pub end_is_turn : (lib : Library) (before : Booted) (turn : Turn) (e : End) → before.next_event ≡ Over e → turn ≡ Ended e → IsTurn lib before turn before
end_is_turn lib before turn e over told = turn_by lib before turn before (Over e) over (told, refl)

-- ---- the console

pub console_refused : (limited : Bool) (text : Result (List ℕ) Fault) (before after : Booted) (turn : Turn) → limited ≡ true → turn ≡ Ended end.Console → after ≡ record before { next_event = Over end.Console } → IsConsoleTurn limited text before turn after
console_refused limited text before after turn e told same =
    subst (λ (b : Bool). IsConsoleTurn b text before turn after) (sym e) (told, same)

pub console_faulted : (limited : Bool) (text : Result (List ℕ) Fault) (before after : Booted) (turn : Turn) (f : Fault) → limited ≡ false → text ≡ Err f → turn ≡ Ended (end.Fault f) → after ≡ record before { next_event = Over (end.Fault f) } → IsConsoleTurn limited text before turn after
console_faulted limited text before after turn f e fault told same =
    subst (λ (b : Bool). IsConsoleTurn b text before turn after) (sym e) (subst (λ (t : Result (List ℕ) Fault). IsConsoleTurn false t before turn after) (sym fault) (told, same))

pub console_printed : (limited : Bool) (text : Result (List ℕ) Fault) (before after : Booted) (turn : Turn) (characters : List ℕ) → limited ≡ false → text ≡ Ok characters → turn ≡ Console characters → after ≡ record before { state = record { regs = advanced before.state.regs; memory = before.state.memory }; next_event = Step } → IsConsoleTurn limited text before turn after
console_printed limited text before after turn characters e read told same =
    subst (λ (b : Bool). IsConsoleTurn b text before turn after) (sym e) (subst (λ (t : Result (List ℕ) Fault). IsConsoleTurn false t before turn after) (sym read) (told, same))

pub running_moved : (old new : State (List ℕ)) (p : PagerFields) → IsRunning (length p.holders) old.regs old.store p → new ≡ record { regs = advanced old.regs; store = old.store } → IsRunning (length p.holders) new.regs new.store p
running_moved old new p runs e =
    subst (λ (s : State (List ℕ)). IsRunning (length p.holders) s.regs s.store p) (sym e) (record { dbr = moved_dbr old.regs ∙ runs.dbr; managed = runs.managed })

pub ruleset printed = (console_refused, console_faulted, console_printed)

pub ruleset system_turns = (end_is_turn, due_at, due_print)

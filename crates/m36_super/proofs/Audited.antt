-- A turn keeps the audit conditions, and plain turns are a function of the library.
use Rattle.std.proofs.Common.{◌≡◌, refl, ◌∙◌, ap, subst, inl, inr}
use Rattle.std.specs.Prelude.{ℕ, ◌⊎◌, Bool, true, false, List, [], ◌∷◌, length, take, Result, Ok, Err}
use Rattle.m36_model.specs.Fields.{AtFields}
use Rattle.m36_model.specs.Flat.{Flat, flat_store}
use Rattle.m36_model.specs.Step.{record_of}
use Rattle.m36_model.specs.BootedCore.{descriptor_words}
use Rattle.m36_model.specs.Residence.{Paged, flat_of}
use Rattle.m36_model.specs.declared.outcome.Fault.{Fault}
use Rattle.m36_isol.specs.PageServices.{core_state}
use Rattle.m36_isol.proofs.FlatLaw.{put_descriptors}
use Rattle.m36_isol.proofs.LaidAudit.{same_audit}
use Rattle.m36_isol.proofs.PagedStep.{paged_step_law}
use Rattle.m36_link.specs.Fields.{SnapFields}
use Rattle.m36_link.specs.Snap.{RefusedFields, snap_of}
use Rattle.m36_step.specs.declared.turns.Turn.{Turn}
use Rattle.m36_step.specs.declared.turns.Turn.TheVariants.{Stepped, Linked, Console, Ended, Full, NoMemory}
use Rattle.m36_super.specs.Library.{Library}
use Rattle.m36_super.specs.Services.{asks_too_much, console_text, link_changes}
use Rattle.m36_super.specs.NextEvent.{NextEvent, Step, Link, Print, Over, loaded_after}
use Rattle.m36_super.specs.FlatRun.{FlatRun, flat_step_turn, flat_link_turn, flat_console_turn, flat_turn_by, flat_turn, flat_turns}
use Rattle.m36_super.specs.BootedRun.{Booted, IsStepWithPages, IsStepTurn, IsLinkTurn, IsConsoleTurn, IsTurnBy, IsTurn, AreTurns, IsLaidOut, LaidOutUntilLdbr, flat_run_of}
use Rattle.m36_super.specs.TurnLaws.{TurnExecutesAbsa, IsFlatTurn, TurnAuditLaw, IsPlainTurn, PlainTurnsLaw}
use Rattle.m36_super.proofs.Served.{services_alike}
use Rattle.m36_super.proofs.Turns.{turn_law}

-- ---- each turn keeps the descriptors

-- the descriptors of a state are the same
abbrev IsLow : Booted → Booted → Type 0
IsLow before after =
    take descriptor_words after.state.memory.core ≡ take descriptor_words before.state.memory.core

flat_low : (old new : Paged) (f : Flat) → flat_of new ≡ f → f.descriptors ≡ take descriptor_words old.core → take descriptor_words new.core ≡ take descriptor_words old.core
unfolding flat_of
flat_low old new f e h = ap (λ (s : Flat). s.descriptors) e ∙ h

old_low : (m : Paged) → (flat_of m).descriptors ≡ take descriptor_words m.core
unfolding flat_of
old_low m = refl

step_low : (frames : ℕ) (before : Booted) (turn : Turn) (after : Booted) → IsLaidOut frames before.state → IsStepWithPages frames before turn after → IsLow before after
step_low frames before turn after stands h =
    let alike = services_alike frames h.services before.state h.last stands h.served in
    let step = paged_step_law frames h.last.memory.kept (core_state h.last) alike.standing.dbr alike.standing.laid in
    ap (λ (r : Booted). take descriptor_words r.state.memory.core) h.takes.after_is ∙ step.descriptors ∙ alike.low

link_low : (frames : ℕ) (at : AtFields) (answer : Result SnapFields RefusedFields) (before : Booted) (turn : Turn) (after : Booted) → IsLinkTurn answer frames at before turn after → IsLow before after
link_low frames at (Ok s) before NoMemory after h = ap (λ (r : Booted). take descriptor_words r.state.memory.core) h
link_low frames at (Err why) before NoMemory after h = ap (λ (r : Booted). take descriptor_words r.state.memory.core) h
link_low frames at (Ok s) before turn after h =
    flat_low before.state.memory after.state.memory _ h.written.flat (put_descriptors (flat_of before.state.memory) (link_changes at s) ∙ old_low before.state.memory)
link_low frames at (Err why) before turn after h = ap (λ (r : Booted). take descriptor_words r.state.memory.core) h.1

console_low : (b : Bool) (text : Result (List ℕ) Fault) (before : Booted) (turn : Turn) (after : Booted) → IsConsoleTurn b text before turn after → IsLow before after
console_low true text before turn after h = ap (λ (r : Booted). take descriptor_words r.state.memory.core) h.1
console_low false (Err f) before turn after h = ap (λ (r : Booted). take descriptor_words r.state.memory.core) h.1
console_low false (Ok text) before turn after h = ap (λ (r : Booted). take descriptor_words r.state.memory.core) h.1

turn_low_by : (next_event : NextEvent) (lib : Library) (before : Booted) (turn : Turn) (after : Booted) (b : Bool) → before.loaded ≡ b → b ≡ false → IsLaidOut lib.catalog.frames before.state → IsTurnBy next_event lib before turn after → IsLow before after
turn_low_by Step lib before turn after true e loaded stands h = cc
turn_low_by Step lib before turn after false e loaded stands h =
    step_low lib.catalog.frames before turn after stands (subst (λ (b : Bool). IsStepTurn b lib.catalog.frames before turn after) e h)
turn_low_by (Link at) lib before turn after b e loaded stands h =
    link_low lib.catalog.frames at (snap_of before.known lib.catalog lib.files at) before turn after h
turn_low_by Print lib before turn after b e loaded stands h =
    console_low (asks_too_much before.state.regs) (console_text before.state.regs (flat_of before.state.memory)) before turn after h
turn_low_by (Over end) lib before turn after b e loaded stands h =
    ap (λ (r : Booted). take descriptor_words r.state.memory.core) h.1

turn_low : (lib : Library) (before : Booted) (turn : Turn) (after : Booted) → before.loaded ≡ false → IsLaidOut lib.catalog.frames before.state → IsTurn lib before turn after → IsLow before after
unfolding IsTurn
turn_low lib before turn after loaded stands h =
    turn_low_by before.next_event lib before turn after before.loaded refl loaded stands h

pub turn_audit : TurnAuditLaw
turn_audit lib before turn after loaded stands audited h none =
    let kept = turn_law lib before turn after loaded stands h in
    let laid : IsLaidOut lib.catalog.frames after.state = subst (λ (b : Bool). LaidOutUntilLdbr b lib.catalog.frames after.state) none kept.stands in
    same_audit lib.catalog.frames before.state.memory.core after.state.memory.core audited laid.laid (turn_low lib before turn after loaded stands h)

-- ---- plain turns

-- after a plain turn of the flat run no LDBR has been executed
link_loaded : (answer : Result SnapFields RefusedFields) (r : FlatRun) (at : AtFields) → (flat_link_turn answer r at).after.loaded ≡ r.loaded
link_loaded (Ok s) r at = refl
link_loaded (Err why) r at = refl

print_loaded : (b : Bool) (text : Result (List ℕ) Fault) (r : FlatRun) → (flat_console_turn b text r).after.loaded ≡ r.loaded
print_loaded true text r = refl
print_loaded false (Err f) r = refl
print_loaded false (Ok text) r = refl

step_loaded : (r : FlatRun) → r.loaded ≡ false → IsPlainTurn (flat_step_turn r).turn → (flat_step_turn r).after.loaded ≡ false
unfolding flat_step_turn
step_loaded r loaded plain = ap (λ (b : Bool). loaded_after b (record_of flat_store r.state)) loaded ∙ plain.1

loaded_by : (next_event : NextEvent) (lib : Library) (r : FlatRun) → r.loaded ≡ false → IsPlainTurn (flat_turn_by next_event lib r).turn → (flat_turn_by next_event lib r).after.loaded ≡ false
loaded_by Step lib r loaded plain = step_loaded r loaded plain
loaded_by (Link at) lib r loaded plain = link_loaded (snap_of r.known lib.catalog lib.files at) r at ∙ loaded
loaded_by Print lib r loaded plain =
    print_loaded (asks_too_much r.state.regs) (console_text r.state.regs r.state.store) r ∙ loaded
loaded_by (Over e) lib r loaded plain = loaded

pub flat_loaded : (lib : Library) (r : FlatRun) → r.loaded ≡ false → IsPlainTurn (flat_turn lib r).turn → (flat_turn lib r).after.loaded ≡ false
unfolding flat_turn
flat_loaded lib r loaded plain = loaded_by r.next_event lib r loaded plain

-- a turn that executes ABSA is not plain
pub not_located : (turn : Turn) → TurnExecutesAbsa turn → IsPlainTurn turn → ⊥
not_located (Stepped e) h plain = plain.0 h
not_located (Linked note) h plain = h
not_located (Console text) h plain = h
not_located (Ended e) h plain = h
not_located Full h plain = h
not_located NoMemory h plain = h

-- a plain turn is that of the flat run
pub plain_flat : (lib : Library) (before : Booted) (turn : Turn) (after : Booted) → IsPlainTurn turn → (IsFlatTurn lib before turn after ⊎ ((turn ≡ NoMemory) × (after ≡ before)) ⊎ TurnExecutesAbsa turn) → IsFlatTurn lib before turn after
plain_flat lib before turn after plain (inl h) = h
plain_flat lib before turn after plain (inr (inl h)) = absurd (subst IsPlainTurn h.0 plain)
plain_flat lib before turn after plain (inr (inr h)) = absurd (not_located turn h plain)

pub function_law : PlainTurnsLaw
unfolding AreTurns flat_turns
function_law lib [] r last loaded stands turns plain = refl
function_law lib (turn ∷ more) r last loaded stands turns plain =
    let mid = turns.0 in
    let kept = turn_law lib r turn mid loaded stands turns.1 in
    let flat = plain_flat lib r turn mid plain.0 kept.cases in
    let next : mid.loaded ≡ false = ap (λ (s : FlatRun). s.loaded) flat.after_is ∙ flat_loaded lib (flat_run_of r) loaded (subst IsPlainTurn flat.turn_is plain.0) in
    let standing : LaidOutUntilLdbr false lib.catalog.frames mid.state = subst (λ (b : Bool). LaidOutUntilLdbr b lib.catalog.frames mid.state) next kept.stands in
    let rest = function_law lib more mid last next standing turns.2 plain.1 in
    let same : more ≡ flat_turns lib (flat_turn lib (flat_run_of r)).after (length more) = rest ∙ ap (λ (s : FlatRun). flat_turns lib s (length more)) flat.after_is in
    λ i. flat.turn_is i ∷ same i

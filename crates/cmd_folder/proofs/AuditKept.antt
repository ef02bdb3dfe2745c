-- A booted system that passes its audit passes it in every state until an LDBR is executed.
use Rattle.std.proofs.Common.{◌≡◌, ℕ, Bool, true, false, List, [], ◌∷◌, Result, Ok, Err, refl, sym, ap, subst, ◌∙◌}
use Rattle.m36_model.specs.Audit.{IsAudited}
use Rattle.m36_model.specs.BootedCore.{booted_dbr}
use Rattle.m36_model.specs.Fields.{AtFields}
use Rattle.m36_model.specs.Residence.{flat_of}
use Rattle.m36_model.specs.declared.outcome.Fault.{Fault}
use Rattle.m36_isol.proofs.CoreIsolated.{core_isolated}
use Rattle.m36_isol.proofs.FlatLaw.{flat_isolated}
use Rattle.m36_isol.proofs.LaidAudit.{flat_audit}
use Rattle.m36_link.specs.Fields.{SnapFields}
use Rattle.m36_link.specs.Snap.{RefusedFields}
use Rattle.m36_step.specs.declared.turns.Turn.{Turn}
use Rattle.m36_step.specs.declared.turns.Turn.TheVariants.{Stepped, Linked, Console, Ended, Full, NoMemory}
use Rattle.m36_super.specs.Library.{Library}
use Rattle.m36_super.specs.declared.next_event.NextEvent.{NextEvent}
use Rattle.m36_super.specs.declared.next_event.NextEvent.TheVariants.{Step, Link, Print, Over}
use Rattle.m36_super.specs.NextEvent.{loaded_after}
use Rattle.m36_super.specs.BootedRun.{Booted, record_of_state, IsStepTurn, IsLinkTurn, IsConsoleTurn, IsTurnBy, IsTurn}
use Rattle.m36_super.specs.BootedRun.{AreTurns, IsLaidOut, LaidOutUntilLdbr}
use Rattle.m36_super.specs.SuperFields.{SuperFields, booted_of}
use Rattle.m36_super.specs.BootResult.{IsBooted}
use Rattle.m36_super.proofs.BootTurns.{start_unloaded}
use Rattle.m36_super.proofs.Turns.{turn_law}
use Rattle.m36_super.proofs.Audited.{turn_audit}
use Rattle.cmd_folder.specs.Promise.{IsReached, PassesFolderAudit}
use Rattle.cmd_folder.proofs.OneSystem.{one_system}

-- ---- an LDBR that was executed stays executed

abbrev IsLoaded : Booted → Type 0
IsLoaded r = r.loaded ≡ true

step_loaded :
    (loaded : Bool) (frames : ℕ) (before : Booted) (turn : Turn) (after : Booted)
    → loaded ≡ true → IsLoaded before → IsStepTurn loaded frames before turn after → IsLoaded after
step_loaded false frames before turn after e is turns = absurd (cc)
step_loaded true frames before turn after e is turns =
    ap (λ (r : Booted). r.loaded) turns.after_is ∙ ap (λ b. loaded_after b (record_of_state before.state)) is

link_loaded :
    (answer : Result SnapFields RefusedFields) (frames : ℕ) (at : AtFields) (before : Booted) (turn : Turn)
    (after : Booted)
    → IsLoaded before → IsLinkTurn answer frames at before turn after → IsLoaded after
link_loaded (Ok s) frames at before (Stepped told) after is turns = turns.loaded ∙ is
link_loaded (Ok s) frames at before (Linked note) after is turns = turns.loaded ∙ is
link_loaded (Ok s) frames at before (Console text) after is turns = turns.loaded ∙ is
link_loaded (Ok s) frames at before (Ended e) after is turns = turns.loaded ∙ is
link_loaded (Ok s) frames at before Full after is turns = turns.loaded ∙ is
link_loaded (Ok s) frames at before NoMemory after is turns = ap (λ (r : Booted). r.loaded) turns ∙ is
link_loaded (Err why) frames at before (Stepped told) after is turns = ap (λ (r : Booted). r.loaded) turns.1 ∙ is
link_loaded (Err why) frames at before (Linked note) after is turns = ap (λ (r : Booted). r.loaded) turns.1 ∙ is
link_loaded (Err why) frames at before (Console text) after is turns = ap (λ (r : Booted). r.loaded) turns.1 ∙ is
link_loaded (Err why) frames at before (Ended e) after is turns = ap (λ (r : Booted). r.loaded) turns.1 ∙ is
link_loaded (Err why) frames at before Full after is turns = ap (λ (r : Booted). r.loaded) turns.1 ∙ is
link_loaded (Err why) frames at before NoMemory after is turns = ap (λ (r : Booted). r.loaded) turns ∙ is

print_loaded :
    (many : Bool) (text : Result (List ℕ) Fault) (before : Booted) (turn : Turn) (after : Booted)
    → IsLoaded before → IsConsoleTurn many text before turn after → IsLoaded after
print_loaded true text before turn after is turns = ap (λ (r : Booted). r.loaded) turns.1 ∙ is
print_loaded false (Err f) before turn after is turns = ap (λ (r : Booted). r.loaded) turns.1 ∙ is
print_loaded false (Ok text) before turn after is turns = ap (λ (r : Booted). r.loaded) turns.1 ∙ is

turn_loaded :
    (next_event : NextEvent) (lib : Library) (before : Booted) (turn : Turn) (after : Booted)
    → IsLoaded before → IsTurnBy next_event lib before turn after → IsLoaded after
turn_loaded Step lib before turn after is turns =
    step_loaded before.loaded lib.catalog.frames before turn after is is turns
turn_loaded (Link at) lib before turn after is turns = link_loaded _ lib.catalog.frames at before turn after is turns
turn_loaded Print lib before turn after is turns = print_loaded _ _ before turn after is turns
turn_loaded (Over e) lib before turn after is turns = ap (λ (r : Booted). r.loaded) turns.1 ∙ is

turns_loaded :
    (lib : Library) (turns : List Turn) (r last : Booted)
    → IsLoaded r → AreTurns lib r turns last → IsLoaded last
unfolding AreTurns IsTurn
turns_loaded lib [] r last is are = ap (λ (r : Booted). r.loaded) are ∙ is
turns_loaded lib (turn ∷ turns) r last is are =
    turns_loaded lib turns are.0 last (turn_loaded r.next_event lib r turn are.0 is are.1) are.2

-- ---- what is kept until then

pub record IsKept (lib : Library) (r : Booted) : Type 0 where
  pub stands : IsLaidOut lib.catalog.frames r.state
  pub audited : IsAudited r.state.memory.core booted_dbr

mid_unloaded :
    (b : Bool) (lib : Library) (turns : List Turn) (mid last : Booted)
    → mid.loaded ≡ b → AreTurns lib mid turns last → last.loaded ≡ false → mid.loaded ≡ false
mid_unloaded false lib turns mid last e are un = e
mid_unloaded true lib turns mid last e are un =
    let loaded : last.loaded ≡ true = turns_loaded lib turns mid last e are in
    absurd (cc)

stood :
    (loaded : Bool) (lib : Library) (r : Booted) → loaded ≡ false → LaidOutUntilLdbr loaded lib.catalog.frames r.state
    → IsLaidOut lib.catalog.frames r.state
stood false lib r e stands = stands
stood true lib r e stands = absurd (cc)

turn_keeps :
    (lib : Library) (before : Booted) (turn : Turn) (after : Booted)
    → before.loaded ≡ false → after.loaded ≡ false → IsTurn lib before turn after → IsKept lib before → IsKept lib after
turn_keeps lib before turn after un un' is kept =
    record {
      stands = stood after.loaded lib after un' (turn_law lib before turn after un kept.stands is).stands;
      audited = turn_audit lib before turn after un kept.stands kept.audited is un';
    }

turns_keep :
    (lib : Library) (turns : List Turn) (r last : Booted)
    → r.loaded ≡ false → AreTurns lib r turns last → last.loaded ≡ false → IsKept lib r → IsKept lib last
unfolding AreTurns
turns_keep lib [] r last un are un' kept = subst (λ s. IsKept lib s) (sym are) kept
turns_keep lib (turn ∷ turns) r last un are un' kept =
    let mid : are.0.loaded ≡ false = mid_unloaded are.0.loaded lib turns are.0 last refl are.2 un' in
    turns_keep lib turns are.0 last mid are.2 un' (turn_keeps lib r turn are.0 un mid are.1 kept)

-- ---- the promise

reached_kept :
    (lib : Library) (system : SuperFields) (now : Booted)
    → IsBooted lib system → IsAudited system.core booted_dbr → IsReached lib now → IsKept lib now
reached_kept lib system now booted audited reached =
    let same : system ≡ reached.system = one_system lib system reached.system booted reached.booted in
    let start : IsKept lib (booted_of system) = record { stands = booted.stands; audited = audited } in
    turns_keep lib reached.turns (booted_of reached.system) now
    (start_unloaded lib reached.system reached.booted) reached.turns_are reached.unloaded
    (subst (λ (s : SuperFields). IsKept lib (booted_of s)) same start)

pub passes_booted :
    (lib : Library) (system : SuperFields) → IsBooted lib system → IsAudited system.core booted_dbr → PassesFolderAudit lib
passes_booted lib system booted audited = record {
  conditions = λ now reached. (reached_kept lib system now booted audited reached).audited;
  isolates = λ now reached. record {
    isolates = core_isolated now.state.memory.core booted_dbr
        (reached_kept lib system now booted audited reached).audited;
  };
  flat = λ now reached.
      let kept = reached_kept lib system now booted audited reached in
      flat_isolated (flat_of now.state.memory) booted_dbr
      (flat_audit lib.catalog.frames now.state.memory kept.stands.laid kept.audited);
}

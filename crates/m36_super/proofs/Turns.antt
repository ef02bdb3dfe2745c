-- A turn of a booted run is that of the flat run.
use Rattle.std.proofs.Common.{◌≡◌, refl, sym, ◌∙◌, ap, subst, inl, inr}
use Rattle.std.specs.Prelude.{ℕ, ◌⊎◌, Bool, true, false, List, Option, Some, None, Result, Ok, Err}
use Rattle.m36_inst.specs.declared.effect.Effect.{Effect}
use Rattle.m36_inst.specs.declared.effect.Effect.TheVariants as effect
use Rattle.m36_model.specs.Fields.{AtFields}
use Rattle.m36_model.specs.Registers.{RegsFields}
use Rattle.m36_model.specs.Results.{advanced}
use Rattle.m36_model.specs.Store.{State}
use Rattle.m36_model.specs.Core.{core_store}
use Rattle.m36_model.specs.Step.{decode, record_of, state_after}
use Rattle.m36_model.specs.Laws.{ExecutesLdbr}
use Rattle.m36_model.specs.Flat.{Flat, flat_store}
use Rattle.m36_model.specs.BootedCore.{booted_dbr}
use Rattle.m36_model.specs.Residence.{flat_of}
use Rattle.m36_model.specs.PagedStep.{flat_state, ExecutesAbsa, IsNoPageFault, IsFlatStep, IsPageFault, IsAbsaStep, IsPagedStep}
use Rattle.m36_model.specs.declared.outcome.Fault.{Fault}
use Rattle.m36_model.specs.declared.outcome.Outcome.{Outcome}
use Rattle.m36_model.specs.declared.outcome.Outcome.TheVariants.{Next, Faulted, Stopped}
use Rattle.m36_model.specs.declared.record.StepRecord.{StepRecord}
use Rattle.m36_isol.specs.PageServices.{PagedState, core_state, stepped_memory}
use Rattle.m36_isol.proofs.PagedStep.{paged_step_law}
use Rattle.m36_link.specs.Fields.{KnownFields, SnapFields}
use Rattle.m36_link.specs.Snap.{RefusedFields, snap_of}
use Rattle.m36_step.specs.declared.turns.Turn.{Turn}
use Rattle.m36_step.specs.declared.turns.Turn.TheVariants.{Stepped, NoMemory}
use Rattle.m36_super.specs.Library.{Library}
use Rattle.m36_super.specs.Services.{asks_too_much, console_text}
use Rattle.m36_super.specs.NextEvent.{NextEvent, Step, Link, Print, Over, event_after_outcome, is_ldbr, executed_ldbr, loaded_after}
use Rattle.m36_super.specs.FlatRun.{FlatTurn, flat_step_turn, flat_link_turn, flat_console_turn, flat_turn_by, flat_turn}
use Rattle.m36_super.specs.BootedRun.{Booted, record_of_state, with_step, IsStepWithPages, IsLinkTurn, IsConsoleTurn, IsTurnBy, IsTurn, IsLaidOut, LaidOutUntilLdbr, flat_run_of}
use Rattle.m36_super.specs.TurnLaws.{LoadsLaw, TurnExecutesAbsa, IsFlatTurn, ObeysTurnLaw, TurnLaw}
use Rattle.m36_super.proofs.AbsaSteps.{absa_law}
use Rattle.m36_super.proofs.Served.{IsAlike, services_alike}

-- ---- whether the step loads the DBR

loads_ldbr : (word : Option ℕ) (outcome : Outcome) (w n : ℕ) → word ≡ Some w → decode w ≡ Some (effect.Ldbr, n) → outcome ≡ Next → executed_ldbr word outcome ≡ true
loads_ldbr word outcome w n fetched row next =
    let here : executed_ldbr (Some w) Next ≡ true = ap is_ldbr row in
    sym (λ i. executed_ldbr (sym fetched i) (sym next i)) ∙ here

pub not_loaded : (e : StepRecord) → loaded_after false e ≡ false → ExecutesLdbr e → ⊥
not_loaded e none k =
    let loaded = loads_ldbr e.word e.outcome k.word k.number k.fetched k.does k.next in
    cc

ldbr_by : (e : Effect) (n : ℕ) → is_ldbr (Some (e, n)) ≡ true → e ≡ effect.Ldbr
ldbr_by effect.Ldbr n h = refl
ldbr_by _ n h = cc

ldbr_in : (row : Option (Effect × ℕ)) → is_ldbr row ≡ true → (n : ℕ) × (row ≡ Some (effect.Ldbr, n))
ldbr_in None h = cc
ldbr_in (Some (e, n)) h = (n, ap (λ (x : Effect). Some (x, n)) (ldbr_by e n h))

executes_by : (e : StepRecord) (word : Option ℕ) (outcome : Outcome) → e.word ≡ word → e.outcome ≡ outcome → executed_ldbr word outcome ≡ true → ExecutesLdbr e
executes_by e None outcome fetched next h = cc
executes_by e (Some w) Next fetched next h =
    let row = ldbr_in (decode w) h in
    record { word = w; fetched = fetched; number = row.0; does = row.1; next = next }
executes_by e (Some w) (Faulted f) fetched next h = cc
executes_by e (Some w) (Stopped s) fetched next h = cc

pub loads_law : LoadsLaw
loads_law e =
    (executes_by e e.word e.outcome refl refl, λ k. loads_ldbr e.word e.outcome k.word k.number k.fetched k.does k.next)

-- advancing the instruction counter leaves the DBR unchanged
pub moved_dbr : (g : RegsFields) → (advanced g).dbr ≡ g.dbr
unfolding advanced
moved_dbr g = refl

-- ---- steps

module _ (lib : Library) (state : PagedState) (known : KnownFields) where
  abbrev frames : ℕ
  frames = lib.catalog.frames

  abbrev before : NextEvent → Booted
  before next_event = record { state = state; known = known; next_event = next_event; loaded = false }

  -- the turn of the flat run
  abbrev IsBy : NextEvent → FlatTurn → Turn → Booted → Type 0
  IsBy next_event t turn after = (turn ≡ t.turn) × (flat_run_of after ≡ t.after)

  flat_by : (next_event : NextEvent) (turn : Turn) (after : Booted) → IsBy next_event (flat_turn_by next_event lib (flat_run_of (before next_event))) turn after → IsFlatTurn lib (before next_event) turn after
  unfolding flat_turn
  flat_by next_event turn after h = record { turn_is = h.0; after_is = h.1 }

  flat_kept : (next_event : NextEvent) (turn : Turn) (after : Booted) → IsFlatTurn lib (before next_event) turn after → LaidOutUntilLdbr after.loaded frames after.state → ObeysTurnLaw lib (before next_event) turn after
  flat_kept next_event turn after h stands =
      record { cases = inl h; locates = λ k. subst TurnExecutesAbsa h.turn_is k; stands = stands }

  -- the core after a step
  stands_after : (s : PagedState) → IsPagedStep frames s.memory.kept (core_state s) → (((state_after core_store (core_state s)).regs.dbr ≡ booted_dbr) ⊎ ExecutesLdbr (record_of_state s)) → (b : Bool) → loaded_after false (record_of_state s) ≡ b → LaidOutUntilLdbr b frames (record { regs = (state_after core_store (core_state s)).regs; memory = stepped_memory s })
  stands_after s step dbr true e = tt
  stands_after s step (inl same) false e = record { dbr = same; laid = step.laid }
  stands_after s step (inr executed_ldbr) false e = absurd (not_loaded (record_of_state s) e executed_ldbr)

  -- a step from a state that represents the flat memory
  step_turn : (last : PagedState) → IsAlike frames state last → (turn : Turn) → turn ≡ Stepped (record_of_state last) → IsFlatStep last.memory.kept (core_state last) → IsBy Step (flat_step_turn (flat_run_of (before Step))) turn (with_step (before Step) last)
  unfolding flat_step_turn
  step_turn last alike turn told h =
      let r = alike.regs in
      let f = alike.flat in
      let same : flat_state last.memory.kept (core_state last) ≡ (flat_run_of (before Step)).state = λ i. record { regs = r i; store = f i } in
      let e : record_of_state last ≡ record_of flat_store (flat_run_of (before Step)).state = h.told ∙ ap (record_of flat_store) same in
      let s : flat_state last.memory.kept (state_after core_store (core_state last)) ≡ state_after flat_store (flat_run_of (before Step)).state = h.state ∙ ap (state_after flat_store) same in (
        told ∙ ap Stepped e,
        λ i. record {
          state = s i;
          known = known;
          next_event = event_after_outcome (loaded_after false (e i)) (e i).ppr.prr (e i).outcome;
          loaded = loaded_after false (e i);
        },
      )

  -- if a step executes ABSA, that of the flat run does too
  step_locates : (last : PagedState) → IsAlike frames state last → ExecutesAbsa (record_of_state last) → TurnExecutesAbsa (flat_turn lib (flat_run_of (before Step))).turn
  unfolding flat_turn flat_step_turn
  step_locates last alike h =
      let r = alike.regs in
      let f = alike.flat in
      let same : flat_state last.memory.kept (core_state last) ≡ (flat_run_of (before Step)).state = λ i. record { regs = r i; store = f i } in
      subst (λ (s : State Flat). ExecutesAbsa (record_of flat_store s)) same (absa_law frames last.memory.kept (core_state last) alike.standing.dbr alike.standing.laid h)

  step_cases : (last : PagedState) → IsAlike frames state last → (turn : Turn) → turn ≡ Stepped (record_of_state last) → IsNoPageFault (record_of_state last).outcome → IsPagedStep frames last.memory.kept (core_state last) → (IsFlatStep last.memory.kept (core_state last) ⊎ IsPageFault last.memory.kept (core_state last) ⊎ IsAbsaStep last.memory.kept (core_state last)) → ObeysTurnLaw lib (before Step) turn (with_step (before Step) last)
  step_cases last alike turn told present step (inl h) =
      flat_kept Step turn (with_step (before Step) last) (flat_by Step turn (with_step (before Step) last) (step_turn last alike turn told h)) (stands_after last step h.dbr _ refl)
  step_cases last alike turn told present step (inr (inl h)) =
      absurd (subst IsNoPageFault h.outcome present h.number)
  step_cases last alike turn told present step (inr (inr h)) =
      record {
        cases = inr (inr (subst TurnExecutesAbsa (sym told) h.executes));
        locates = λ k. step_locates last alike h.executes;
        stands = stands_after last step (inl h.dbr) _ refl;
      }

  step_kept : (turn : Turn) (after : Booted) → IsLaidOut frames state → IsStepWithPages frames (before Step) turn after → ObeysTurnLaw lib (before Step) turn after
  step_kept turn after stands h =
      let alike = services_alike frames h.services state h.last stands h.served in
      let step = paged_step_law frames h.last.memory.kept (core_state h.last) alike.standing.dbr alike.standing.laid in
      subst (ObeysTurnLaw lib (before Step) turn) (sym h.takes.after_is) (step_cases h.last alike turn h.takes.told h.present step step.cases)

  -- ---- services
  stands_as : (after : Booted) → after.loaded ≡ false → IsLaidOut frames after.state → LaidOutUntilLdbr after.loaded frames after.state
  stands_as after loaded h = subst (λ (b : Bool). LaidOutUntilLdbr b frames after.state) (sym loaded) h

  link_cases : (at : AtFields) (answer : Result SnapFields RefusedFields) (turn : Turn) (after : Booted) → IsLaidOut frames state → IsLinkTurn answer frames at (before (Link at)) turn after → ((turn ≡ NoMemory) × (after ≡ before (Link at))) ⊎ (IsBy (Link at) (flat_link_turn answer (flat_run_of (before (Link at))) at) turn after × LaidOutUntilLdbr after.loaded frames after.state)
  link_cases at (Ok s) NoMemory after stands h = inl (refl, h)
  link_cases at (Err why) NoMemory after stands h = inl (refl, h)
  link_cases at (Ok s) turn after stands h =
      let regs = h.regs in
      let flat = h.written.flat in
      let known = h.known in
      let next_event = h.next_event in
      let loaded = h.loaded in
      inr ((h.told, λ i. record { state = record { regs = regs i; store = flat i }; known = known i; next_event = next_event i; loaded = loaded i }), stands_as after loaded (record { dbr = ap (λ (r : RegsFields). r.dbr) regs ∙ stands.dbr; laid = h.written.laid }))
  link_cases at (Err why) turn after stands h =
      inr ((h.0, ap flat_run_of h.1), subst (λ (r : Booted). LaidOutUntilLdbr r.loaded frames r.state) (sym h.1) stands)

  link_kept_by : (at : AtFields) (turn : Turn) (after : Booted) → IsLaidOut frames state → (((turn ≡ NoMemory) × (after ≡ before (Link at))) ⊎ (IsBy (Link at) (flat_turn_by (Link at) lib (flat_run_of (before (Link at)))) turn after × LaidOutUntilLdbr after.loaded frames after.state)) → ObeysTurnLaw lib (before (Link at)) turn after
  link_kept_by at turn after stands (inl h) =
      record { cases = inr (inl h); locates = λ k. absurd (subst TurnExecutesAbsa h.0 k); stands = subst (λ (r : Booted). LaidOutUntilLdbr r.loaded frames r.state) (sym h.1) stands }
  link_kept_by at turn after stands (inr h) =
      flat_kept (Link at) turn after (flat_by (Link at) turn after h.0) h.1

  link_kept : (at : AtFields) (turn : Turn) (after : Booted) → IsLaidOut frames state → IsLinkTurn (snap_of known lib.catalog lib.files at) frames at (before (Link at)) turn after → ObeysTurnLaw lib (before (Link at)) turn after
  link_kept at turn after stands h =
      link_kept_by at turn after stands (link_cases at (snap_of known lib.catalog lib.files at) turn after stands h)

  console_cases : (b : Bool) (text : Result (List ℕ) Fault) (turn : Turn) (after : Booted) → IsLaidOut frames state → IsConsoleTurn b text (before Print) turn after → IsBy Print (flat_console_turn b text (flat_run_of (before Print))) turn after × LaidOutUntilLdbr after.loaded frames after.state
  console_cases true text turn after stands h =
      ((h.0, ap flat_run_of h.1), subst (λ (r : Booted). LaidOutUntilLdbr r.loaded frames r.state) (sym h.1) stands)
  console_cases false (Err f) turn after stands h =
      ((h.0, ap flat_run_of h.1), subst (λ (r : Booted). LaidOutUntilLdbr r.loaded frames r.state) (sym h.1) stands)
  console_cases false (Ok text) turn after stands h =
      ((h.0, ap flat_run_of h.1), subst (λ (r : Booted). LaidOutUntilLdbr r.loaded frames r.state) (sym h.1) (record { dbr = moved_dbr state.regs ∙ stands.dbr; laid = stands.laid }))

  print_kept : (turn : Turn) (after : Booted) → IsLaidOut frames state → IsConsoleTurn (asks_too_much state.regs) (console_text state.regs (flat_of state.memory)) (before Print) turn after → ObeysTurnLaw lib (before Print) turn after
  print_kept turn after stands h =
      let k = console_cases (asks_too_much state.regs) (console_text state.regs (flat_of state.memory)) turn after stands h in
      flat_kept Print turn after (flat_by Print turn after k.0) k.1

  turn_by : (next_event : NextEvent) (turn : Turn) (after : Booted) → IsLaidOut frames state → IsTurnBy next_event lib (before next_event) turn after → ObeysTurnLaw lib (before next_event) turn after
  turn_by Step turn after stands h = step_kept turn after stands h
  turn_by (Link at) turn after stands h = link_kept at turn after stands h
  turn_by Print turn after stands h = print_kept turn after stands h
  turn_by (Over e) turn after stands h =
      flat_kept (Over e) turn after (flat_by (Over e) turn after (h.0, ap flat_run_of h.1)) (subst (λ (r : Booted). LaidOutUntilLdbr r.loaded frames r.state) (sym h.1) stands)

loaded_by : (lib : Library) (before : Booted) (turn : Turn) (after : Booted) (b : Bool) → b ≡ false → IsLaidOut lib.catalog.frames before.state → IsTurnBy before.next_event lib (record before { loaded = b }) turn after → ObeysTurnLaw lib (record before { loaded = b }) turn after
loaded_by lib before turn after true e stands h = cc
loaded_by lib before turn after false e stands h =
    turn_by lib before.state before.known before.next_event turn after stands h

pub turn_law : TurnLaw
unfolding IsTurn
turn_law lib before turn after loaded stands h = loaded_by lib before turn after before.loaded loaded stands h

-- Steps that need no page service, one after another, are turns of the booted run, and keep the
-- invariant of the system.
use Rattle.std.proofs.Common.{◌≡◌, refl, sym, ◌∙◌, ap, subst, arith}
use Rattle.std.specs.Prelude.{ℕ, zero, suc, ◌<◌, Bool, true, false, List, [], ◌∷◌, ◌++◌, length}
use Rattle.m36_model.specs.Store.{State}
use Rattle.m36_model.specs.Core.{core_store}
use Rattle.m36_model.specs.Laws.{ExecutesLdbr}
use Rattle.m36_model.specs.Step.{record_of, state_after}
use Rattle.m36_model.specs.PagedStep.{IsNoPageFault}
use Rattle.m36_model.specs.declared.outcome.Outcome.TheVariants.{Next}
use Rattle.m36_model.specs.declared.record.StepRecord.{StepRecord}
use Rattle.m36_isol.specs.PageServices.{ArePageFaultsServed}
use Rattle.m36_isol.proofs.Spots.{each_append}
use Rattle.m36_link.specs.Fields.{KnownFields}
use Rattle.m36_page.specs.Fields.{PagerFields}
use Rattle.m36_step.specs.Answers.{IsStepWithNext}
use Rattle.m36_step.specs.Hurry.{state_after_steps}
use Rattle.m36_step.specs.declared.turns.Turn.{Turn}
use Rattle.m36_step.specs.declared.turns.Turn.TheVariants.{Stepped}
use Rattle.m36_super.specs.Library.{Library}
use Rattle.m36_super.specs.NextEvent.{NextEvent, Step, executed_ldbr, loaded_after, event_after_outcome}
use Rattle.m36_super.specs.BootedRun.{Booted, IsTurn, AreTurns}
use Rattle.m36_super.specs.SuperFields.{run_of, RunningUntilLdbr}
use Rattle.m36_super.specs.Stepping.{StepContract}
use Rattle.m36_super.specs.HurriedSteps.{AreStepsWithNext}
use Rattle.m36_super.proofs.Turns.{loads_law}
use Rattle.m36_super.proofs.StepTurns.{step_turn, step_manages}
use Rattle.m36_super.proofs.SystemTurns.{step_is_turn}

-- ---- one step

step_contract : (loaded : Bool) (s : State (List ℕ)) (p : PagerFields) → RunningUntilLdbr loaded (length p.holders) s.regs s.store p → (record_of core_store s).outcome ≡ Next → StepContract loaded s p (state_after core_store s) p (record_of core_store s)
unfolding ArePageFaultsServed
step_contract false s p runs next =
    record {
      last = s;
      services = 0;
      few = omega arith;
      served = refl;
      frames = refl;
      runs = runs;
      taken = record { step = record { told_is = refl; state = refl; pager = refl }; present = subst IsNoPageFault (sym next) tt };
    }
step_contract true s p runs next = record { told_is = refl; state = refl; pager = refl }

-- an instruction that is no LDBR leaves the flag as it is
loaded_as : (loaded : Bool) (e : StepRecord) → (ExecutesLdbr e → ⊥) → loaded ≡ loaded_after loaded e
loaded_as true e none = refl
loaded_as false e none =
    by (executed_ldbr e.word e.outcome) refl
  where
    by : (b : Bool) → executed_ldbr e.word e.outcome ≡ b → false ≡ executed_ldbr e.word e.outcome
    by true is = absurd (none ((loads_law e).0 is))
    by false is = sym is

-- Nothing is served before a step with the outcome Next that executes no LDBR, and a step follows.
module _ (loaded : Bool) (s : State (List ℕ)) (p : PagerFields) (runs : RunningUntilLdbr loaded (length p.holders) s.regs s.store p)
    (next : (record_of core_store s).outcome ≡ Next) (plain : ExecutesLdbr (record_of core_store s) → ⊥) where
  abbrev told : StepRecord
  told = record_of core_store s

  step_made : (lib : Library) (known : KnownFields) → length p.holders ≡ lib.catalog.frames → IsTurn lib (run_of s p known Step loaded) (Stepped told) (run_of (state_after core_store s) p known Step loaded)
  step_made lib known frames =
      step_is_turn lib (run_of s p known Step loaded) (Stepped told) (run_of (state_after core_store s) p known Step loaded) (length p.holders) refl frames
      (step_turn loaded loaded s (state_after core_store s) p p told known Step Step (step_contract loaded s p runs next) (loaded_as loaded told plain) (ap (event_after_outcome loaded told.ppr.prr) (sym next)))

  step_keeps : RunningUntilLdbr loaded (length p.holders) (state_after core_store s).regs (state_after core_store s).store p
  step_keeps =
      step_manages loaded loaded s (state_after core_store s) p p told (step_contract loaded s p runs next) (loaded_as loaded told plain)

-- ---- one step after another

turns_more : (lib : Library) (r mid last : Booted) (turns : List Turn) (turn : Turn) → AreTurns lib r turns mid → IsTurn lib mid turn last → AreTurns lib r (turns ++ turn ∷ []) last
unfolding AreTurns
turns_more lib r mid last [] turn are is = (last, subst (λ (b : Booted). IsTurn lib b turn last) are is, refl)
turns_more lib r mid last (first ∷ turns) turn are is =
    (are.0, are.1, turns_more lib are.0 mid last turns turn are.2 is)

count_more : (turns : List Turn) (turn : Turn) → length (turns ++ turn ∷ []) ≡ suc (length turns)
count_more [] turn = refl
count_more (first ∷ turns) turn = ap suc (count_more turns turn)

steps_more : (lib : Library) (r mid last : Booted) (n : ℕ) (turn : Turn) → AreStepsWithNext lib r n mid → IsTurn lib mid turn last → IsStepWithNext turn → AreStepsWithNext lib r (suc n) last
steps_more lib r mid last n turn steps is on =
    record {
      turns = steps.turns ++ turn ∷ [];
      count = count_more steps.turns turn ∙ ap suc steps.count;
      are = turns_more lib r mid last steps.turns turn steps.are is;
      each = each_append IsStepWithNext steps.turns (turn ∷ []) steps.each (on, tt);
    }

-- `taken` steps of the processor from this state, each with the outcome Next and no LDBR
module _ (loaded : Bool) (s : State (List ℕ)) (p : PagerFields) (runs : RunningUntilLdbr loaded (length p.holders) s.regs s.store p) where
  abbrev Goes : ℕ → Type 0
  Goes taken = (n : ℕ) → n < taken → (record_of core_store (state_after_steps n s)).outcome ≡ Next

  abbrev LoadsNone : ℕ → Type 0
  LoadsNone taken = (n : ℕ) → n < taken → ExecutesLdbr (record_of core_store (state_after_steps n s)) → ⊥

  steps_keep : (taken : ℕ) → Goes taken → LoadsNone taken → RunningUntilLdbr loaded (length p.holders) (state_after_steps taken s).regs (state_after_steps taken s).store p
  unfolding state_after_steps
  steps_keep zero on plain = runs
  steps_keep (suc taken) on plain =
      step_keeps loaded (state_after_steps taken s) p (steps_keep taken (λ n h. on n (omega arith)) (λ n h. plain n (omega arith)))
      (on taken (omega arith)) (plain taken (omega arith))

  steps_made : (lib : Library) (known : KnownFields) (taken : ℕ) → length p.holders ≡ lib.catalog.frames → Goes taken → LoadsNone taken → AreStepsWithNext lib (run_of s p known Step loaded) taken (run_of (state_after_steps taken s) p known Step loaded)
  unfolding state_after_steps AreTurns
  steps_made lib known zero frames on plain = record { turns = []; count = refl; are = refl; each = tt }
  steps_made lib known (suc taken) frames on plain =
      let on' : Goes taken = λ n h. on n (omega arith) in
      let plain' : LoadsNone taken = λ n h. plain n (omega arith) in
      let now = state_after_steps taken s in
      steps_more lib (run_of s p known Step loaded) (run_of now p known Step loaded) (run_of (state_after core_store now) p known Step loaded) taken (Stepped (record_of core_store now))
      (steps_made lib known taken frames on' plain')
      (step_made loaded now p (steps_keep taken on' plain') (on taken (omega arith)) (plain taken (omega arith)) lib known frames)
      (on taken (omega arith))

  pub steps_are : (lib : Library) (known : KnownFields) (next_event : NextEvent) (taken : ℕ) (new : State (List ℕ)) → next_event ≡ Step → length p.holders ≡ lib.catalog.frames → new ≡ state_after_steps taken s → Goes taken → LoadsNone taken → AreStepsWithNext lib (run_of s p known next_event loaded) taken (run_of new p known next_event loaded)
  steps_are lib known next_event taken new is frames left on plain =
      subst (λ (t : State (List ℕ)). AreStepsWithNext lib (run_of s p known next_event loaded) taken (run_of t p known next_event loaded)) (sym left)
      (subst (λ (e : NextEvent). AreStepsWithNext lib (run_of s p known e loaded) taken (run_of (state_after_steps taken s) p known e loaded)) (sym is) (steps_made lib known taken frames on plain))

  pub steps_manage : (taken : ℕ) (new : State (List ℕ)) → new ≡ state_after_steps taken s → Goes taken → LoadsNone taken → RunningUntilLdbr loaded (length p.holders) new.regs new.store p
  steps_manage taken new left on plain =
      subst (λ (t : State (List ℕ)). RunningUntilLdbr loaded (length p.holders) t.regs t.store p) (sym left) (steps_keep taken on plain)

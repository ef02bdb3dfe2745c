-- A run of steps, and the part of it that is the window of a ring.
use Rattle.std.specs.Prelude.{ℕ, zero, suc, Bool, true, false, nat_le, List, [], ◌∷◌, map}
use Rattle.m36_model.specs.Store.{Store, State}
use Rattle.m36_model.specs.Step.{record_of, state_after}
use Rattle.m36_model.specs.declared.outcome.Outcome.{Outcome}
use Rattle.m36_model.specs.declared.outcome.Outcome.TheVariants.{Next, Faulted, Stopped}
use Rattle.m36_model.specs.declared.record.StepRecord.{StepRecord}

-- a step of a run: the state before it, its record, and the state after it
pub record RunStep (S : Type 0) : Type 0 where
  pub before : State S
  pub told : StepRecord
  pub after : State S

-- whether the run continues after this outcome
abbrev pub is_next : Outcome → Bool
is_next Next = true
is_next (Faulted f) = false
is_next (Stopped s) = false

-- the list if the condition holds, and otherwise the empty list
abbrev pub only_if : {A : Type 0} → Bool → List A → List A
only_if true xs = xs
only_if false xs = []

-- a step from a state
abbrev pub run_one_step : {S : Type 0} → Store S → State S → RunStep S
run_one_step o s = record { before = s; told = record_of o s; after = state_after o s }

-- the run of at most n steps; it ends with the first fault or stop
unfoldable pub run_steps : {S : Type 0} → Store S → ℕ → State S → List (RunStep S)
run_steps o zero s = []
run_steps o (suc n) s =
    run_one_step o s ∷ only_if (is_next (record_of o s).outcome) (run_steps o n (state_after o s))

-- the state after the last of some steps or events, or the state s if there are none
abbrev pub state_after_all : {S A : Type 0} → (A → S) → S → List A → S
state_after_all after s [] = s
state_after_all after s (x ∷ more) = state_after_all after (after x) more

-- the records of a run
abbrev pub records_of_run : {S : Type 0} → Store S → ℕ → State S → List StepRecord
records_of_run o n s = map (λ v. v.told) (run_steps o n s)

-- the steps up to the first one that ends in a ring below r
unfoldable pub cut_below : {S : Type 0} → ℕ → List (RunStep S) → List (RunStep S)
cut_below r [] = []
cut_below r (v ∷ steps) = v ∷ only_if (nat_le r v.told.after.ppr.prr) (cut_below r steps)

-- the window of ring r: the steps of a run up to the first fault, stop, or step that ends in a ring
-- below r
abbrev pub window : {S : Type 0} → Store S → ℕ → ℕ → State S → List (RunStep S)
window o r n s = cut_below r (run_steps o n s)

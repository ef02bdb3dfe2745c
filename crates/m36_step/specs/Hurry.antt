-- Several steps, one after another.
use Rattle.std.specs.Prelude.{ℕ, zero, suc, List}
use Rattle.m36_model.specs.Core.{core_store}
use Rattle.m36_model.specs.Step.{state_after}
use Rattle.m36_model.specs.Store.{State}

-- the state after n steps
unfoldable pub state_after_steps : ℕ → State (List ℕ) → State (List ℕ)
state_after_steps zero s = s
state_after_steps (suc n) s = state_after core_store (state_after_steps n s)

-- a function applied n times
unfoldable pub apply_repeatedly : {A : Type 0} → (A → A) → ℕ → A → A
apply_repeatedly f zero a = a
apply_repeatedly f (suc n) a = f (apply_repeatedly f n a)

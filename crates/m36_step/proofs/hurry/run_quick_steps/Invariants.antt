use Rattle.std.proofs.Common.{ℕ, ◌≡◌, ◌-◌, ◌<◌, ◌≤◌, List}
use Rattle.m36_model.specs.Core.{core_store}
use Rattle.m36_model.specs.Laws.{ExecutesLdbr}
use Rattle.m36_model.specs.Step.{record_of}
use Rattle.m36_model.specs.Store.{State}
use Rattle.m36_model.specs.declared.outcome.Outcome.TheVariants.{Next}
use Rattle.m36_step.specs.Hurry.{state_after_steps}
use Rattle.m36_step.proofs.hurry.run_quick_steps.Given as goal

abbrev pub invariant-loop-taken : goal.invariant-loop-taken
invariant-loop-taken l =
    let start : State (List ℕ) = record { regs = l.fn.regs; store = l.fn.walk.core } in
    record {
      few : l.taken ≤ l.most;
      dbr : l.walk.dbr ≡ l.regs.dbr;
      state : let now : State (List ℕ) = record { regs = l.regs; store = l.walk.core } in now ≡ state_after_steps l.taken start;
      on : (n : ℕ) → n < l.taken → (record_of core_store (state_after_steps n start)).outcome ≡ Next;
      plain : (n : ℕ) → n < l.taken → ExecutesLdbr (record_of core_store (state_after_steps n start)) → ⊥;
    }

abbrev pub decreases-loop-taken : goal.decreases-loop-taken
decreases-loop-taken l = l.most - l.taken

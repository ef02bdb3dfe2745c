-- Quick steps, one after another.
use Rattle.std.proofs.Common.{ℕ, zero, suc, ◌≡◌, ◌+◌, ◌<◌, ◌∙◌, refl, sym, ap, subst, List, [], below_more, arith, None, Some}
use Rattle.m36_model.specs.Core.{core_store}
use Rattle.m36_model.specs.Laws.{ExecutesLdbr}
use Rattle.m36_model.specs.Step.{record_of, state_after}
use Rattle.m36_model.specs.Store.{State}
use Rattle.m36_model.specs.declared.outcome.Outcome.{Outcome}
use Rattle.m36_model.specs.declared.outcome.Outcome.TheVariants.{Next}
use Rattle.m36_model.specs.declared.record.StepRecord.{StepRecord}
use Rattle.m36_step.specs.Answers.{IsStepWithNext}
use Rattle.m36_step.specs.Hurry.{apply_repeatedly, state_after_steps}
use Rattle.m36_step.specs.MachineFields.{MachineFields}
use Rattle.m36_step.specs.MachineTurn.{machine_turn, machine_after, turn_given_end, after_given_end, end_by_outcome}
use Rattle.m36_step.specs.Quick.{Steps, next_end}
use Rattle.m36_step.proofs.Ends.{step_told, step_left}

-- `taken` steps lead from the first state to this one; each has the outcome Next and is not an LDBR
pub record Taken (start now : State (List ℕ)) (taken : ℕ) : Type 0 where
  pub state : now ≡ state_after_steps taken start
  pub on : (n : ℕ) → n < taken → (record_of core_store (state_after_steps n start)).outcome ≡ Next
  pub plain : (n : ℕ) → n < taken → ExecutesLdbr (record_of core_store (state_after_steps n start)) → ⊥

pub none_taken : (start : State (List ℕ)) → Taken start start 0
unfolding state_after_steps
none_taken start =
    record { state = refl; on = λ n h. absurd (omega arith); plain = λ n h. absurd (omega arith) }

-- what a step with the outcome Next implies
pub record IsTakenOn (s later : State (List ℕ)) : Type 0 where
  pub left : later ≡ state_after core_store s
  pub on : (record_of core_store s).outcome ≡ Next
  pub plain : ExecutesLdbr (record_of core_store s) → ⊥

is_on : (s later : State (List ℕ)) → Steps (λ refs. Unit {0}) (λ refs e. Unit {0}) s.regs s.store later.store later.regs → IsTakenOn s later
is_on s later steps =
    let t = steps.goes [] tt in
    let told = step_told s later.store t.refs later.regs (next_end steps.word t.last) t.ends in
    record {
      left = sym (step_left s later.store t.refs later.regs (next_end steps.word t.last) t.ends);
      on = ap (λ (x : StepRecord). x.outcome) told;
      plain = λ executes.
          let word : Some steps.word ≡ Some executes.word = ap (λ (x : StepRecord). x.word) (sym told) ∙ executes.fetched in
          let same : steps.word ≡ executes.word = cc in
          steps.no_ldbr executes.number (rw same executes.does);
    }

pub one_more :
    (start before later : State (List ℕ)) (taken : ℕ) → Taken start before taken
    → Steps (λ refs. Unit {0}) (λ refs e. Unit {0}) before.regs before.store later.store later.regs → Taken start later (taken + 1)
unfolding state_after_steps
one_more start before later taken t steps =
    let one = is_on before later steps in
    let more : taken + 1 ≡ suc taken = omega arith in
    record {
      state = one.left ∙ ap (state_after core_store) t.state ∙ sym (ap (λ (k : ℕ). state_after_steps k start) more);
      on = below_more (λ n. (record_of core_store (state_after_steps n start)).outcome ≡ Next) taken t.on (rw (← t.state) one.on);
      plain = below_more (λ n. ExecutesLdbr (record_of core_store (state_after_steps n start)) → ⊥) taken t.plain (rw (← t.state) one.plain);
    }

-- Turns of a machine whose run has not ended, if each step has the outcome Next.
pub turns_repeated :
    (m : MachineFields) (taken : ℕ) → m.ended ≡ None → ((n : ℕ) → n < taken → (record_of core_store (state_after_steps n m.state)).outcome ≡ Next)
    → apply_repeatedly machine_after taken m ≡ record { state = state_after_steps taken m.state; ended = None }
unfolding apply_repeatedly state_after_steps machine_after
turns_repeated m zero going on = λ i. record { state = m.state; ended = going i }
turns_repeated m (suc taken) going on =
    let before : apply_repeatedly machine_after taken m ≡ record { state = state_after_steps taken m.state; ended = None } = turns_repeated m taken going (λ n h. on n (omega arith)) in
    let next = on taken (omega arith) in
    ap (λ (x : MachineFields). after_given_end x.ended x.state) before ∙ ap (λ (o : Outcome). record { state = state_after core_store (state_after_steps taken m.state); ended = end_by_outcome o }) next

pub turns_on :
    (m : MachineFields) (taken : ℕ) → m.ended ≡ None → ((n : ℕ) → n < taken → (record_of core_store (state_after_steps n m.state)).outcome ≡ Next)
    → (n : ℕ) → n < taken → IsStepWithNext (machine_turn (apply_repeatedly machine_after n m))
unfolding machine_turn
turns_on m taken going on n h =
    let there = turns_repeated m n going (λ k l. on k (omega arith)) in
    subst (λ (x : MachineFields). IsStepWithNext (turn_given_end x.ended x.state)) (sym there) (on n h)

-- Laws of a machine that goes back.
use Rattle.std.specs.Prelude.{ℕ, suc, ◌≡◌, ◌==◌, ◌⊎◌, Bool, true, false, if◌then◌else◌}
use Rattle.std.proofs.Common.{inl, inr, subst, ap, ◌∙◌, add-one}
use Rattle.m36_step.specs.Answers.{HasGoneBack, IsService, IsStep, IsStepOrEnd, PrecludesStep}
use Rattle.m36_step.specs.Counting.{step_count_limit, step_count_after}
use Rattle.m36_step.specs.declared.turns.Turn.{Turn}
use Rattle.m36_step.specs.declared.turns.Turn.TheVariants.{Stepped, Linked, Console, Ended, Full}
use Rattle.m36_step.specs.declared.turns.Turn.TheVariants.{NoMemory}
use Rattle.m36_step.specs.declared.turns.BackAnswer.{BackAnswer}
use Rattle.m36_step.specs.declared.turns.BackAnswer.TheVariants as back
use Rattle.m36_back.specs.History.{History, state_at, current_state, past_answer, PastTurns}
use Rattle.m36_back.specs.History.{MayGoBack}

-- going back changes nothing unless it answers Done
pub past_stays :
    {M : Type 0} (before : History M) (n : ℕ) (answer : BackAnswer) (later : History M)
    → MayGoBack before n answer later → HasGoneBack answer ⊎ (later ≡ before)
past_stays before n back.Done later went = inl tt
past_stays before n (back.Before taken) later went = inr went.2
past_stays before n back.Unable later went = absurd went
past_stays before n back.NoMemory later went = inr went.1

no_service : (Same : Type 0) (turn : Turn) → IsStepOrEnd Same turn → IsService turn → ⊥
no_service Same (Stepped told) kept service = service
no_service Same (Linked note) kept service = kept
no_service Same (Console text) kept service = kept
no_service Same (Ended end) kept service = service
no_service Same Full kept service = service
no_service Same NoMemory kept service = service

no_service_if :
    (Same : Type 0) (full : Bool) (turn : Turn)
    → IsStepOrEnd Same turn → IsService (if full then Full else turn) → ⊥
no_service_if Same true turn kept service = service
no_service_if Same false turn kept service = no_service Same turn kept service

-- a service is not followed by another, since there are no services
pub past_apart :
    {M : Type 0} (answer : M → Turn) (after : M → M)
    (kept : (state : M) → IsStepOrEnd (after state ≡ state) (answer state))
    (first second third : History M) (one two : Turn)
    → PastTurns answer after first one second → PastTurns answer after second two third
    → IsService one → IsService two → ⊥
past_apart answer after kept first second third one two turns further service other =
    no_service_if (after (current_state after first) ≡ current_state after first)
    (first.taken == step_count_limit) (answer (current_state after first))
    (kept (current_state after first)) (subst IsService turns.0 service)

-- ---- a turn that interrupts is not followed by a step

interrupts_if : (full : Bool) (turn : Turn)
    → PrecludesStep (if full then Full else turn) → PrecludesStep turn
interrupts_if true turn interrupts = absurd interrupts
interrupts_if false turn interrupts = interrupts

no_step_if : (full : Bool) (turn : Turn)
    → (IsStep turn → ⊥) → IsStep (if full then Full else turn) → ⊥
no_step_if true turn none step = step
no_step_if false turn none step = none step

-- a turn that interrupts is a step, and counts 1
counts_one : (Same : Type 0) (taken : ℕ) (turn : Turn)
    → IsStepOrEnd Same turn → PrecludesStep turn → step_count_after taken turn ≡ suc taken
counts_one Same taken (Stepped told) kept interrupts = add-one taken
counts_one Same taken (Linked note) kept interrupts = absurd kept
counts_one Same taken (Console text) kept interrupts = absurd kept
counts_one Same taken (Ended end) kept interrupts = absurd interrupts
counts_one Same taken Full kept interrupts = absurd interrupts
counts_one Same taken NoMemory kept interrupts = absurd interrupts

counts_one_if : (Same : Type 0) (full : Bool) (taken : ℕ) (turn : Turn)
    → IsStepOrEnd Same turn → PrecludesStep (if full then Full else turn)
    → step_count_after taken (if full then Full else turn) ≡ suc taken
counts_one_if Same true taken turn kept interrupts = absurd interrupts
counts_one_if Same false taken turn kept interrupts = counts_one Same taken turn kept interrupts

-- the turn after one that interrupts is not a step
pub past_interrupted :
    {M : Type 0} (answer : M → Turn) (after : M → M)
    (kept : (state : M) → IsStepOrEnd (after state ≡ state) (answer state))
    (held : (state : M) → PrecludesStep (answer state) → IsStep (answer (after state)) → ⊥)
    (first second third : History M) (one two : Turn)
    → PastTurns answer after first one second → PastTurns answer after second two third
    → PrecludesStep one → IsStep two → ⊥
unfolding state_at
past_interrupted answer after kept held first second third one two turns further last step =
    let here = current_state after first in
    let full = first.taken == step_count_limit in
    let interrupts = subst PrecludesStep turns.0 last in
    let count : step_count_after first.taken (past_answer answer after first) ≡ suc first.taken =
    counts_one_if (after here ≡ here) full first.taken (answer here) (kept here) interrupts in
    let there : current_state after second ≡ after here =
    ap (current_state after) turns.1 ∙ ap (state_at after first.first) count in
    no_step_if (second.taken == step_count_limit) (answer (current_state after second))
    (λ stepped.
    held here (interrupts_if full (answer here) interrupts)
    (subst (λ state. IsStep (answer state)) there stepped))
    (subst IsStep further.0 step)

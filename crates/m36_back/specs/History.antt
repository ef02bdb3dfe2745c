-- The history of a machine whose turns are a function of its state: the first state, the state
-- that the turn from it leaves, the state that the turn from that leaves, and so on.
use Rattle.std.specs.Prelude.{ℕ, zero, suc, ◌≡◌, ◌-◌, ◌<◌, ◌≤◌, ◌==◌, if◌then◌else◌}
use Rattle.m36_step.specs.Counting.{step_count_limit, step_count_after}
use Rattle.m36_step.specs.declared.turns.Turn.{Turn}
use Rattle.m36_step.specs.declared.turns.Turn.TheVariants.{Full}
use Rattle.m36_step.specs.declared.turns.BackAnswer.{BackAnswer}
use Rattle.m36_step.specs.declared.turns.BackAnswer.TheVariants as back

-- the state with number n of the history; the first has number 0
unfoldable pub state_at : {M : Type 0} → (M → M) → M → ℕ → M
state_at after first zero = first
state_at after first (suc n) = after (state_at after first n)

-- a first state, and the count of steps that were taken from there and not taken back
pub record History (M : Type 0) : Type 0 where
  pub first : M
  pub taken : ℕ

-- the current state of the machine
abbrev pub current_state : {M : Type 0} → (M → M) → History M → M
current_state after h = state_at after h.first h.taken

-- ---- turns

-- the turn of a machine with this history: that of the machine inside, or Full if the count of
-- steps is at its maximum
abbrev pub past_answer : {M : Type 0} → (M → Turn) → (M → M) → History M → Turn
past_answer answer after h =
    if h.taken == step_count_limit then Full else answer (current_state after h)

-- the history after the turn of `past_answer`: a step adds one to the count
abbrev pub past_after : {M : Type 0} → (M → Turn) → (M → M) → History M → History M
past_after answer after h =
    record { first = h.first; taken = step_count_after h.taken (past_answer answer after h) }

-- the machine makes this turn, and its history is `later` after it
abbrev pub PastTurns :
    {M : Type 0} → (M → Turn) → (M → M) → History M → Turn → History M → Type 0
PastTurns answer after before turn later =
    (turn ≡ past_answer answer after before) × (later ≡ past_after answer after before)

-- ---- going back

-- Going back by n steps may have this answer, and leave the history `later`. Done takes n steps
-- back, and Before reports that fewer were taken. NoMemory is allowed in place of Done. Only Done
-- changes the history.
abbrev pub MayGoBack : {M : Type 0} → History M → ℕ → BackAnswer → History M → Type 0
MayGoBack before n back.Done later =
    (n ≤ before.taken) × (later ≡ record { first = before.first; taken = before.taken - n })
MayGoBack before n (back.Before taken) later =
    (before.taken < n) × (taken ≡ before.taken) × (later ≡ before)
MayGoBack before n back.Unable later = ⊥
MayGoBack before n back.NoMemory later = (n ≤ before.taken) × (later ≡ before)

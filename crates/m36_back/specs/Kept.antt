-- The states that are kept of a history.
use Rattle.std.specs.Prelude.{ℕ, ◌≡◌, ◌<◌, ◌^◌, List, All}
use Rattle.m36_back.specs.History.{state_at}
use Rattle.m36_back.specs.declared.kept.Kept.{Kept}

-- each kept state is the state of the history with its number
abbrev pub AllKept : {M : Type 0} → (M → M) → M → List (Kept M) → Type 0
AllKept after first kept = All (λ k. k.state ≡ state_at after first k.at) kept

-- the invariant of a machine that is `taken` steps after its first state
pub record PastInvariant {M : Type 0} (after : M → M) (first machine : M) (taken : ℕ)
    (kept : List (Kept M)) : Type 0 where
  pub bound : taken < 2 ^ 64
  pub state : machine ≡ state_at after first taken
  pub all : AllKept after first kept

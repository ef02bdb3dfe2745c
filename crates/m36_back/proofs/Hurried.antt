-- Turns that are taken at once.
use Rattle.std.proofs.Common.{ℕ, zero, suc, ◌≡◌, ◌+◌, ap, ◌∙◌, sym, add-zero, add-suc}
use Rattle.m36_step.specs.Hurry.{apply_repeatedly}
use Rattle.m36_back.specs.History.{state_at}

-- k turns from the state with number n lead to that with number n + k
pub hurried :
    {M : Type 0} (after : M → M) (first : M) (n k : ℕ)
    → apply_repeatedly after k (state_at after first n) ≡ state_at after first (n + k)
unfolding apply_repeatedly state_at
hurried after first n zero = ap (state_at after first) (sym (add-zero n))
hurried after first n (suc k) =
    ap after (hurried after first n k) ∙ ap (state_at after first) (sym (add-suc n k))

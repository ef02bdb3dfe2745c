-- Laws of turns that are appended to a schedule several times.
use Rattle.std.proofs.Common.{◌≡◌, ℕ, zero, suc, ◌-◌, ◌<◌, ◌≤◌, List, ◌++◌, ap, ◌∙◌, arith, append_assoc}
use Rattle.std.proofs.lemmas.List.{append-nil}
use Rattle.std.specs.List.{repeat}

-- they were appended once more
pub repeat_more :
    (s order : List ℕ) (left : ℕ)
    → 0 < left → (s ++ order) ++ repeat (left - 1) order ≡ s ++ repeat left order
repeat_more s order zero some = absurd (omega arith)
repeat_more s order (suc left) some =
    let rest : suc left - 1 ≡ left = omega arith in
    ap (λ n. (s ++ order) ++ repeat n order) rest ∙ append_assoc s order (repeat left order)

-- they need not be appended again
pub repeat_done : (s order : List ℕ) (left : ℕ) → left ≤ 0 → s ++ repeat left order ≡ s
repeat_done s order zero none = append-nil s
repeat_done s order (suc left) none = absurd (omega arith)

pub ruleset repeating = (repeat_more, repeat_done)

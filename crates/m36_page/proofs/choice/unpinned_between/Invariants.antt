use Rattle.std.proofs.Common.{ℕ, ◌≡◌, ◌<◌, ◌≤◌, true, get_or, None}
use Rattle.m36_page.specs.Changes.{is_pinned}
use Rattle.m36_page.proofs.choice.unpinned_between.Given as goal

-- the frames before are pinned
abbrev pub invariant-loop-k : goal.invariant-loop-k
invariant-loop-k l = (k : ℕ) → l.fn.from ≤ k → k < l.k → is_pinned l.references (get_or l.holders k None) ≡ true

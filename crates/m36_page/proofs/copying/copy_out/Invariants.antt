use Rattle.std.proofs.Common.{ℕ, ◌≡◌, ◌+◌, ◌<◌, ◌≤◌, ◌⊎◌, get_or}
use Rattle.m36_page.proofs.copying.copy_out.Given as goal

-- the first i words are copied
abbrev pub invariant-loop-i : goal.invariant-loop-i
invariant-loop-i l = record {
  inside : (j : ℕ) → j < l.i → get_or l.words (l.from + j) 0 ≡ get_or l.page j 0;
  outside : (a : ℕ) → (a < l.from) ⊎ (l.from + l.i ≤ a) → get_or l.words a 0 ≡ get_or l.fn.words a 0;
}

use Rattle.std.proofs.Common.{ℕ, ◌≡◌, ◌+◌, ◌<◌, get_or}
use Rattle.m36_page.proofs.copying.copy_part.Given as goal

-- the first i words are copied
abbrev pub invariant-loop-i : goal.invariant-loop-i
invariant-loop-i l = (j : ℕ) → j < l.i → get_or l.page j 0 ≡ get_or l.words (l.from + j) 0

-- the first k words are copied, with zeros for missing words
abbrev pub invariant-loop-k : goal.invariant-loop-k
invariant-loop-k l = (j : ℕ) → j < l.k → get_or l.page j 0 ≡ get_or l.words (l.from + j) 0

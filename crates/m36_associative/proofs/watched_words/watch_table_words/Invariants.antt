use Rattle.std.proofs.Common.{ℕ, ◌≡◌, ◌+◌, ◌<◌, true, get_or}
use Rattle.m36_associative.specs.Watched.{is_watched}
use Rattle.m36_associative.specs.declared.kept.PtwEntry.{PtwEntry}
use Rattle.m36_associative.proofs.watched_words.watch_table_words.Given as goal

-- each page table word before this entry is watched
abbrev pub invariant-loop-kept : goal.invariant-loop-kept
invariant-loop-kept l = record {
  before : (k : ℕ) (e : PtwEntry) (a : ℕ) → k < l.kept-index → get_or l.ptws k e ≡ e → e.key ≡ a + 1 → is_watched l.tables a ≡ true;
  more : (b : ℕ) → is_watched l.fn.tables b ≡ true → is_watched l.tables b ≡ true;
}

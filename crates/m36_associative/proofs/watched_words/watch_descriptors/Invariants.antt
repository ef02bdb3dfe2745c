use Rattle.std.proofs.Common.{ℕ, ◌≡◌, ◌+◌, ◌<◌, get_or}
use Rattle.m36_associative.specs.Right.{IsWatched}
use Rattle.m36_associative.specs.declared.kept.SdwEntry.{SdwEntry}
use Rattle.m36_associative.proofs.watched_words.watch_descriptors.Given as goal

-- each descriptor before this entry is watched
abbrev pub invariant-loop-kept : goal.invariant-loop-kept
invariant-loop-kept l = (k : ℕ) (e : SdwEntry) (seg : ℕ) → k < l.kept-index → get_or l.sdws k e ≡ e → e.key ≡ seg + 1 → IsWatched l.core l.dbr l.words l.tables seg

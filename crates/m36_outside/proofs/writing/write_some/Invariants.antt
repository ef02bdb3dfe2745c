use Rattle.std.proofs.Common.{◌≡◌, ◌+◌, ◌≤◌, length}
use Rattle.std.specs.Io.KnownBytes.{Keeps}
use Rattle.m36_outside.specs.Signals.{Signals}
use Rattle.m36_outside.proofs.writing.write_some.Given as goal

-- Nothing was written yet, and each try so far was interrupted by a signal.
abbrev pub invariant-loop-turn : goal.invariant-loop-turn
invariant-loop-turn g l = record {
  taken : l.notes.taken.entries ≡ l.fn.notes.taken.entries;
  inner : Keeps (g.W.Write.contents l.fn.writer) (g.W.Write.contents l.writer);
  flushed : l.notes.flushed.entries ≡ l.fn.notes.flushed.entries;
  signals : Signals l.fn.notes.errors.entries l.notes.errors.entries;
  turns : length l.fn.notes.errors.entries + l._turn ≤ length l.notes.errors.entries;
}

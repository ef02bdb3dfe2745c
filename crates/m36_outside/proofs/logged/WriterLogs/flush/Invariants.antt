use Rattle.std.proofs.Common.{◌≡◌, ◌+◌, ◌≤◌, length}
use Rattle.std.specs.Io.KnownBytes.{Keeps}
use Rattle.m36_outside.specs.Signals.{Signals}
use Rattle.m36_outside.proofs.logged.WriterLogs.flush.Given as goal

-- Nothing was flushed yet, and each try so far was interrupted by a signal.
abbrev pub invariant-loop-turn : goal.invariant-loop-turn
invariant-loop-turn g l = record {
  taken : l.self.taken.entries ≡ l.fn.self.taken.entries;
  inner : Keeps (g.W.Write.contents l.fn.writer) (g.W.Write.contents l.writer);
  flushed : l.self.flushed.entries ≡ l.fn.self.flushed.entries;
  signals : Signals l.fn.self.errors.entries l.self.errors.entries;
  turns : length l.fn.self.errors.entries + l._turn ≤ length l.self.errors.entries;
}

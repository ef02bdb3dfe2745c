use Rattle.std.proofs.Common.{◌≡◌, ◌+◌, ◌≤◌, length}
use Rattle.std.specs.Io.KnownBytes.{Keeps}
use Rattle.m36_outside.specs.Signals.{Signals}
use Rattle.m36_outside.proofs.logged.LoggedReader.read.Given as goal

-- Nothing was read yet, and each try so far was interrupted by a signal.
abbrev pub invariant-loop-turn : goal.invariant-loop-turn
invariant-loop-turn g l = record {
  told : Keeps (g.R.Read.remaining l.fn.self.inner) (g.R.Read.remaining l.self.inner);
  given : l.self.given.entries ≡ l.fn.self.given.entries;
  signals : Signals l.fn.self.errors.entries l.self.errors.entries;
  turns : length l.fn.self.errors.entries + l._turn ≤ length l.self.errors.entries;
  room : length l.into ≡ length l.initial.into;
}

use Rattle.std.proofs.Common.{◌≡◌, ◌++◌, ◌-◌, ◌≤◌, length, take}
use Rattle.std.specs.Io.KnownBytes.{Appends}
use Rattle.m36_outside.specs.Signals.{Signals}
use Rattle.m36_outside.proofs.writing.write_whole.Given as goal

-- The first `done` bytes were written, and nothing was flushed.
abbrev pub invariant-loop-done : goal.invariant-loop-done
invariant-loop-done g l = record {
  taken : l.notes.taken.entries ≡ l.fn.notes.taken.entries ++ take l.done l.bytes;
  inner : Appends (g.W.Write.contents l.fn.writer) (g.W.Write.contents l.writer) (take l.done l.bytes);
  flushed : l.notes.flushed.entries ≡ l.fn.notes.flushed.entries;
  signals : Signals l.fn.notes.errors.entries l.notes.errors.entries;
  room : l.done ≤ length l.bytes;
}

abbrev pub decreases-loop-done : goal.decreases-loop-done
decreases-loop-done g l = length l.bytes - l.done

use Rattle.std.proofs.Common.{◌+◌, ◌-◌, ◌≤◌, length}
use Rattle.std.specs.Io.KnownBytes.{Consumes}
use Rattle.m36_outside.specs.Given.{Gives}
use Rattle.m36_outside.specs.ReadAnswer.{file_limit}
use Rattle.m36_outside.specs.Signals.{Signals}
use Rattle.m36_outside.proofs.reading.read_whole.Given as goal

-- What was read are the first bytes that the reader had, within the limit.
abbrev pub invariant-loop-text : goal.invariant-loop-text
invariant-loop-text g l = record {
  told : Consumes (g.R.Read.remaining l.fn.from.inner) (g.R.Read.remaining l.from.inner) l.text;
  given : Gives l.fn.from.given.entries l.from.given.entries l.text;
  limit : length l.text ≤ file_limit;
  signals : Signals l.fn.from.errors.entries l.from.errors.entries;
}

abbrev pub decreases-loop-text : goal.decreases-loop-text
decreases-loop-text g l = file_limit + 1 - length l.text

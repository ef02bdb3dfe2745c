-- One more signal interrupted the flush.
use Rattle.std.proofs.Common.{◌≡◌, [], ◌∷◌, ◌++◌, rules, arith}
use Rattle.std.specs.declared.io.ErrorKind.TheVariants.{Interrupted}
use Rattle.m36_outside.specs.Signals.{IsFault}
use Rattle.m36_outside.proofs.Consumed.{keeps_on}
use Rattle.m36_outside.proofs.Signalled.{signals_more, turns_more, gives_up_at, gives_up_last}
use Rattle.m36_outside.proofs.logged.WriterLogs.flush.Goals as goal

pub loop-turn-preserved : goal.loop-turn-preserved
loop-turn-preserved g c =
    let held = g.W.Write.contents in
    let start = c.args.self.now.errors.entries in
    let now = c.loop-turn.self.errors.entries in
    let next = c.note_error.new.errors.entries in
    let signal : next ≡ now ++ Interrupted ∷ [] = first_of (search rules, grind arith) in
    record {
      taken = c.loop-turn.invariant.taken;
      inner = keeps_on (held c.args.writer.now) (held c.loop-turn.writer) (held c.flush.new.self) c.loop-turn.invariant.inner c.flush.ensures.bytes;
      flushed = c.loop-turn.invariant.flushed;
      signals = signals_more start now next c.loop-turn.invariant.signals signal;
      turns = turns_more start now next Interrupted c.loop-turn._turn c.loop-turn.invariant.turns signal;
    }

-- The flush was done.
pub returns-in-Ok-clause-inner : goal.returns-in-Ok-clause-inner
returns-in-Ok-clause-inner g c =
    let held = g.W.Write.contents in
    keeps_on (held c.args.writer.now) (held c.loop-turn.writer) (held c.flush.new.self) c.loop-turn.invariant.inner c.flush.ensures.bytes

pub returns-in-Ok-clause-sure : goal.returns-in-Ok-clause-sure
returns-in-Ok-clause-sure g c = c.loop-turn.invariant.signals

-- The error is not a signal.
pub returns-then-not-note_error-clause-inner : goal.returns-then-not-note_error-clause-inner
returns-then-not-note_error-clause-inner g c =
    let held = g.W.Write.contents in
    keeps_on (held c.args.writer.now) (held c.loop-turn.writer) (held c.flush.new.self) c.loop-turn.invariant.inner c.flush.ensures.bytes

pub returns-then-not-note_error-clause-failed : goal.returns-then-not-note_error-clause-failed
returns-then-not-note_error-clause-failed g c =
    let now = c.loop-turn.self.errors.entries in
    let next = c.note_error.new.errors.entries in
    let fault : IsFault now next = first_of (search rules, grind arith) in
    gives_up_at c.args.self.now.errors.entries now next c.loop-turn.invariant.signals fault

-- Each try was interrupted by a signal.
pub returns-clause-inner : goal.returns-clause-inner
returns-clause-inner g c = c.loop-turn.invariant.inner

pub returns-clause-failed : goal.returns-clause-failed
returns-clause-failed g c =
    gives_up_last c.args.self.now.errors.entries c.loop-turn.self.errors.entries c.loop-turn._turn c.loop-turn.invariant.signals c.loop-turn.invariant.turns (omega arith)
